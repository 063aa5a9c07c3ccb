use Rattle.g4_leftrec.proofs.Parts.{operators_recursive}
use Rattle.g4_leftrec.proofs.law.only_left_recursive_rules_have_operators.Goals as goal

pub returns : goal.returns
returns g c = λ is_self alternatives. operators_recursive is_self alternatives
