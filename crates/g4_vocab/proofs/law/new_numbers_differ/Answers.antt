use Rattle.g4_vocab.proofs.law.new_numbers_differ.Goals as goal
use Rattle.g4_vocab.proofs.KeptNumbers.{one_entry}

pub returns : goal.returns
returns c = one_entry
