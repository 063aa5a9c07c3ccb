use Rattle.std.proofs.Common.{rules, ◌≡◌, ◌<◌, length}
use Rattle.g4_net.specs.Configurations.{Config}
use Rattle.g4_configs.specs.Configs.{Holds}
use Rattle.g4_configs.specs.Groups.{InSome}
use Rattle.g4_closure.specs.Steps.{ReachedFrom}
use Rattle.g4_closure.proofs.Bounding.{universe_of, bounded_by}
use Rattle.g4_closure.proofs.Closing.{closing_ends, closing_goes_on, closing_here, closing_smaller, none_left, reached_on}
use Rattle.g4_closure.proofs.closure.finish.Goals as goal

pub loop-alloc-init : goal.loop-alloc-init
loop-alloc-init c =
    let R : Config → Type 0 = ReachedFrom c.args.net.now (InSome c.args.set.now.graph c.args.starts.now) in
    closing_goes_on c.args.net.now R (Holds c.args.set.now) c.args.set.now.graph c.args.set.now c.dive.new.set c.args.work.now.items
    c.dive.new.work.items (reached_on c.args.net.now (InSome c.args.set.now.graph c.args.starts.now))
    (closing_here c.args.net.now R c.args.set.now c.args.work.now.items c.requires.sound c.requires.waiting)
    c.in_ok-dive.ensures.later c.in_ok-dive.ensures.waiting

pub sweep-requires-clause-waiting : goal.sweep-requires-clause-waiting
sweep-requires-clause-waiting c = c.loop-alloc.invariant.waiting

pub loop-alloc-smaller : goal.loop-alloc-smaller
loop-alloc-smaller c =
    let R : Config → Type 0 = ReachedFrom c.args.net.now (InSome c.args.set.now.graph c.args.starts.now) in
    let some : 0 < length c.loop-alloc.work.items = search rules in
    closing_smaller c.args.net.now R (Holds c.args.set.now) c.args.set.now.graph
    c.loop-alloc.set c.sweep.new.set c.loop-alloc.work.items c.sweep.new.work.items some c.in_ok-sweep.ensures.spent
    (closing_goes_on c.args.net.now R (Holds c.args.set.now) c.args.set.now.graph
    c.loop-alloc.set c.sweep.new.set c.loop-alloc.work.items c.sweep.new.work.items
    (reached_on c.args.net.now (InSome c.args.set.now.graph c.args.starts.now))
    c.loop-alloc.invariant c.in_ok-sweep.ensures.later c.in_ok-sweep.ensures.waiting)
    (universe_of (length c.args.net.now.states) c.args.starts.now)
    (λ d r. bounded_by c.args.net.now c.requires.well_formed c.args.set.now.graph c.is_canonical.ensures c.args.starts.now r.0 d r.1
    (c.requires.within r.0 r.1) r.2)

pub loop-alloc-preserved : goal.loop-alloc-preserved
loop-alloc-preserved c =
    let R : Config → Type 0 = ReachedFrom c.args.net.now (InSome c.args.set.now.graph c.args.starts.now) in
    closing_goes_on c.args.net.now R (Holds c.args.set.now) c.args.set.now.graph
    c.loop-alloc.set c.sweep.new.set c.loop-alloc.work.items c.sweep.new.work.items
    (reached_on c.args.net.now (InSome c.args.set.now.graph c.args.starts.now))
    c.loop-alloc.invariant c.in_ok-sweep.ensures.later c.in_ok-sweep.ensures.waiting

pub returns-clause-closed : goal.returns-clause-closed
returns-clause-closed c =
    let none : length c.loop-alloc.work.items ≡ 0 = search rules in
    closing_ends c.args.net.now (ReachedFrom c.args.net.now (InSome c.args.set.now.graph c.args.starts.now)) (Holds c.args.set.now)
    c.args.set.now.graph c.loop-alloc.set c.loop-alloc.work.items (none_left c.loop-alloc.work.items none) c.loop-alloc.invariant

pub returns-clause-keeps : goal.returns-clause-keeps
returns-clause-keeps c = c.loop-alloc.invariant.keeps

pub returns-clause-sound : goal.returns-clause-sound
returns-clause-sound c = c.loop-alloc.invariant.sound

pub returns-clause-has : goal.returns-clause-has
returns-clause-has c = c.loop-alloc.invariant.begun
