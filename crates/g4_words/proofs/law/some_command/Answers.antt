use Rattle.g4_words.proofs.Accepted as accepted
use Rattle.g4_words.proofs.law.some_command.Goals as goal

pub returns : goal.returns
returns c = λ words none few numbers names one. accepted.some_command words none few numbers names one
