use Rattle.g4_tokens.specs.TokenList.{word_of}
use Rattle.g4_parse.proofs.Accepting.{accepts}
use Rattle.g4_parse.proofs.Closing.{answer_closes}
use Rattle.g4_parse.proofs.Fitting.{answer_fits}
use Rattle.g4_parse.proofs.Precedence.{answer_keeps}
use Rattle.g4_parse.proofs.runs.parse.Goals as goal

pub returns-clause-tree : goal.returns-clause-tree
returns-clause-tree g c =
    answer_fits g.B.Home.plan.net.net (g.P.Predicates.values c.args.predicates.now)
    (word_of c.args.tokens.now) c.run.result c.requires.ends c.run.ensures.parse

pub returns-clause-whole : goal.returns-clause-whole
returns-clause-whole g c =
    answer_closes g.B.Home.plan.net.net (g.P.Predicates.values c.args.predicates.now)
    (word_of c.args.tokens.now) c.run.result c.requires.ends c.run.ensures.parse

pub returns-clause-accepts : goal.returns-clause-accepts
returns-clause-accepts g c = λ set rules start can built.
    accepts set rules start g.B.Home.plan.net.net (g.P.Predicates.values c.args.predicates.now)
    (word_of c.args.tokens.now) can built c.requires.ends c.run.result c.run.ensures.parse

pub returns-clause-precedence : goal.returns-clause-precedence
returns-clause-precedence g c =
    answer_keeps g.B.Home.plan.net.net (g.P.Predicates.values c.args.predicates.now)
    (word_of c.args.tokens.now) c.run.result c.run.ensures.parse
