use Rattle.g4_written.proofs.Nested.{rule_nests}
use Rattle.g4_written.proofs.law.left_recursion_is_repetition.Goals as goal

pub returns : goal.returns
returns c = λ rules k word. rule_nests rules k word
