use Rattle.g4_chars.proofs.Laws as laws
use Rattle.g4_chars.proofs.law.one_reading.Goals as goal

pub returns : goal.returns
returns c = laws.one_reading
