use Rattle.g4_tool.proofs.OneEnd as ends
use Rattle.g4_tool.proofs.law.one_end.Goals as goal

pub returns : goal.returns
returns c = λ files words. ends.one_end files words
