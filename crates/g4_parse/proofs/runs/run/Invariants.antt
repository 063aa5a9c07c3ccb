use Rattle.std.proofs.Common.{length, reverse}
use Rattle.g4_tokens.specs.TokenList.{word_of}
use Rattle.g4_parse.specs.Foresight.{Foresees}
use Rattle.g4_parse.proofs.Measure.{measure_at}
use Rattle.g4_parse.proofs.Onward.{Onward}
use Rattle.g4_parse.proofs.runs.run.Given as goal

abbrev pub invariant-run : goal.invariant-run
invariant-run g l = (o : Onward g.B.Home.plan (g.P.Predicates.values l.predicates) (word_of l.tokens) l.initial.pass l.pass l.parser)
    × Foresees g.B.Home.plan.net.net (g.P.Predicates.values l.predicates) (word_of l.tokens) l.trial o.run

abbrev pub decreases-run : goal.decreases-run
decreases-run g l = measure_at g.B.Home.plan.net.net (length l.tokens) l.parser.place l.parser.state (reverse l.parser.returns.items)
