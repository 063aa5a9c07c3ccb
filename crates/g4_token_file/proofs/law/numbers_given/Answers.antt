use Rattle.g4_token_file.proofs.Kept.{numbers_given}
use Rattle.g4_token_file.proofs.law.numbers_given.Goals as goal

pub returns : goal.returns
returns c = numbers_given
