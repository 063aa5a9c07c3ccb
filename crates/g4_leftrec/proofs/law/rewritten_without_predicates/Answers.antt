use Rattle.g4_leftrec.proofs.Unpredicated.{rewritten_unpredicated}
use Rattle.g4_leftrec.proofs.law.rewritten_without_predicates.Goals as goal

pub returns : goal.returns
returns c = rewritten_unpredicated
