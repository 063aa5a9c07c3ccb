use Rattle.g4_words.proofs.OneCommand as commands
use Rattle.g4_words.proofs.law.one_command.Goals as goal

pub returns : goal.returns
returns c = λ words. commands.one_command words
