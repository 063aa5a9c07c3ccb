use Rattle.g4_vocab.proofs.law.types_count_from_one.Goals as goal
use Rattle.g4_vocab.proofs.KeptNumbers.{count_from_one}

pub returns : goal.returns
returns c = count_from_one
