use Rattle.std.proofs.Common.{ℕ, ◌<◌, List, [], length, Bool, true, sym, subst, arith}
use Rattle.std.specs.List.{All}
use Rattle.std.proofs.lemmas.List.Elements.{All-weaker}
use Rattle.std.proofs.lemmas.Option.{slice_get_within}
use Rattle.g4_horn.specs.declared.chaining.Wait.{Wait}
use Rattle.g4_horn.specs.Follows.{Follows, Tells}
use Rattle.g4_horn.specs.Chaining.{Says, IsWait, Known, IsUnderWay}
use Rattle.g4_horn.proofs.Ending.{at_first, at_last}
use Rattle.g4_horn.proofs.chaining.consequences.Goals as goal

pub loop-waits-init : goal.loop-waits-init
loop-waits-init c =
    let start = c.in_ok-chaining.chaining in
    c.in_ok-advance_all.ensures.under_way c.args.count
    (subst (λ (left : List Wait). IsUnderWay c.args.clauses.now c.args.count left start) (sym c.as_slice.ensures.value)
    (at_first c.args.clauses.now c.args.count c.in_ok-waits.waits.items start.follows.items start.waiting.items start.ready.items
    c.in_ok-chaining.ensures.follows.0 c.in_ok-chaining.ensures.follows.1
    c.in_ok-chaining.ensures.waiting.0 c.in_ok-chaining.ensures.waiting.1 c.in_ok-chaining.ensures.ready c.in_ok-waits.ensures.waits
    c.in_ok-waits.ensures.each))

pub next_waits-requires : goal.next_waits-requires
next_waits-requires c =
    let now = c.loop-waits.chaining in
    let known : IsUnderWay c.args.clauses.now c.args.count [] now = c.loop-waits.invariant in
    All-weaker (Says now.follows.items) (λ (k : ℕ). k < length now.waiting.items)
    (λ k said. omega (arith, slice_get_within now.follows.items k true said, known.follows_count, known.waiting_count))
    now.ready.items known.are_ready

pub advance_all-requires-in-Some-clause-waits : goal.advance_all-requires-in-Some-clause-waits
advance_all-requires-in-Some-clause-waits c =
    let known : IsUnderWay c.args.clauses.now c.args.count c.in-Some.waits.items c.next_waits.new.self =
    c.in-Some.ensures.under_way c.args.clauses.now c.args.count c.loop-waits.invariant in
    subst (All (IsWait c.args.clauses.now)) (sym c.as_slice-in-Some.ensures.value) known.left_waits

pub loop-waits-preserved : goal.loop-waits-preserved
loop-waits-preserved c =
    c.in_ok-advance_all-2.ensures.under_way c.args.count
    (subst (λ (left : List Wait). IsUnderWay c.args.clauses.now c.args.count left c.next_waits.new.self)
    (sym c.as_slice-in-Some.ensures.value) (c.in-Some.ensures.under_way c.args.clauses.now c.args.count c.loop-waits.invariant))

pub returns-clause-follows : goal.returns-clause-follows
returns-clause-follows c =
    let now = c.loop-waits.chaining in
    let known : Known c.args.clauses.now c.args.count [] now.follows.items now.waiting.items [] =
    subst (λ (ready : List ℕ). Known c.args.clauses.now c.args.count [] now.follows.items now.waiting.items ready)
    c.in_default.ensures.done c.loop-waits.invariant in
    subst (λ (follows : List Bool). Tells follows (Follows c.args.clauses.now)) (sym c.in_default.ensures.same)
    (at_last c.args.clauses.now c.args.count now.follows.items now.waiting.items known)
