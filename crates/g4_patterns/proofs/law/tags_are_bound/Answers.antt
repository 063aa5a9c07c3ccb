use Rattle.g4_patterns.proofs.Tags.{names_bound}
use Rattle.g4_patterns.proofs.law.tags_are_bound.Goals as goal

pub returns : goal.returns
returns c = λ pattern tokens p k t bs h. names_bound pattern tokens h
