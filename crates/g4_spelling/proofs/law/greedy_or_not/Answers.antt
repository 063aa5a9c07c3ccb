use Rattle.g4_spelling.proofs.Deciding.{decide_greedy}
use Rattle.g4_spelling.proofs.law.greedy_or_not.Goals as goal

pub returns : goal.returns
returns c = λ rules can r. decide_greedy rules can.within r
