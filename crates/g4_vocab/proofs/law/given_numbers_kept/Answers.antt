use Rattle.g4_vocab.proofs.law.given_numbers_kept.Goals as goal
use Rattle.g4_vocab.proofs.KeptNumbers.{numbers_kept}

pub returns : goal.returns
returns c = numbers_kept
