use Rattle.g4_vocab.proofs.law.one_naming.Goals as goal
use Rattle.g4_vocab.proofs.OneNaming as names

pub returns : goal.returns
returns c = names.one_naming
