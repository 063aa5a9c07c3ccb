use Rattle.std.proofs.Common.{rules, subst}
use Rattle.g4_net.specs.Network.{ParserNetwork}
use Rattle.g4_guards.specs.Levels.{IsCondition}
use Rattle.g4_learned_tests.proofs.tables.start_at.Goals as goal

pub start_of-requires-clause-condition : goal.start_of-requires-clause-condition
start_of-requires-clause-condition c =
    subst (λ (n : ParserNetwork). IsCondition n 0 c.args.condition) c.net-2.ensures (c.is_condition.ensures (search rules))
