use Rattle.g4_checks.proofs.Braces.{between_braces}
use Rattle.g4_checks.proofs.reference_law.text_between_braces.Goals as goal

pub returns : goal.returns
returns c = between_braces
