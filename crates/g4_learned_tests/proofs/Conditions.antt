-- Where a decision has few tests, 0 is a condition.
use Rattle.std.proofs.Common.{◌≡◌, ◌≤◌, ◌^◌, ℕ, arith}
use Rattle.std.proofs.Math.Nat.{pow-le-pow_right}
use Rattle.g4_net.specs.Network.{ParserNetwork}
use Rattle.g4_guards.specs.Levels.{IsCondition, few_digits}
use Rattle.g4_guards.specs.Tests.{HasTests, tests_among}
use Rattle.g4_guards.specs.declared.tests.Tests.TheVariants.{Few}

pub few_from_0 : (net : ParserNetwork) (d n : ℕ) → HasTests net d Few → n ≤ 0 → IsCondition net d n
few_from_0 net d n has none =
    let from_0 : 0 ≤ tests_among net has.1.0 = omega arith in
    let one : 2 ^ 0 ≤ 2 ^ tests_among net has.1.0 = pow-le-pow_right (omega arith) from_0 in
    few_digits has.1.0 has.0 has.1.1 (omega (arith, one, none))
