use Rattle.std.proofs.Common.{length, reverse}
use Rattle.g4_tokens.specs.TokenList.{word_of}
use Rattle.g4_parse.proofs.Measure.{measure_at}
use Rattle.g4_parse.proofs.Trying.{IsTrying}
use Rattle.g4_parse.proofs.trial.try_run.Given as goal

abbrev pub invariant-trial : goal.invariant-trial
invariant-trial g l = IsTrying l.decisions.net (g.P.Predicates.values l.predicates) (word_of l.tokens) l.parser l.alternatives.items

abbrev pub decreases-trial : goal.decreases-trial
decreases-trial g l = measure_at l.decisions.net (length l.tokens) l.parser.place l.parser.state (reverse l.parser.returns.items)
