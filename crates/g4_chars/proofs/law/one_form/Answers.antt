use Rattle.g4_chars.proofs.Laws as laws
use Rattle.g4_chars.proofs.law.one_form.Goals as goal

pub returns : goal.returns
returns c = laws.one_form
