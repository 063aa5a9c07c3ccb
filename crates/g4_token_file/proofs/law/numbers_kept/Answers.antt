use Rattle.g4_token_file.proofs.Kept.{numbers_kept}
use Rattle.g4_token_file.proofs.law.numbers_kept.Goals as goal

pub returns : goal.returns
returns c = numbers_kept
