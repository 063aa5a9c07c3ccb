use Rattle.std.proofs.Common.{rules, IsTrue, []}
use Rattle.g4_net.specs.Configurations.{above_bottom, wildcard}
use Rattle.g4_closure.proofs.Following.{some_stack}
use Rattle.g4_closure.proofs.ahead.has_some.Goals as goal

pub returns-then-has_end : goal.returns-then-has_end
returns-then-has_end c = λ so. (above_bottom [], c.has_end.ensures.0 (let held : IsTrue c.has_end.result = search rules in held))

pub returns-then-has_wild : goal.returns-then-has_wild
returns-then-has_wild c = λ so. (wildcard, c.has_wild.ensures.0 (let held : IsTrue c.has_wild.result = search rules in held))

pub returns : goal.returns
returns c = some_stack c.args.set.now c.args.stacks c.tops.result.now c.tops.ensures c.is_empty.result c.is_empty.ensures
