use Rattle.std.proofs.Common.{rules, ◌≡◌, false, length, reverse}
use Rattle.g4_configs.specs.Configs.{Holds}
use Rattle.g4_full.proofs.Placing.{clear_down, nothing_below}
use Rattle.g4_full.proofs.lowering.is_down.Goals as goal

pub returns-then-is_empty-clause-down : goal.returns-then-is_empty-clause-down
returns-then-is_empty-clause-down c = λ _.
    let none : length c.args.below.now ≡ 0 = search rules in
    nothing_below c.args.net.now (Holds c.args.set.now) c.args.below.now none

pub returns-clause-down : goal.returns-clause-down
returns-clause-down c = λ down.
    let clear : c.in_ok-found.found ≡ false = search rules in
    clear_down c.args.net.now (Holds c.args.set.now) (reverse c.args.below.now) (c.in_ok-found.ensures clear)
