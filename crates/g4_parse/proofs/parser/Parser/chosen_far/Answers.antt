use Rattle.std.proofs.Common.{length}
use Rattle.g4_tokens.specs.TokenList.{word_of}
use Rattle.g4_parse.proofs.Deciding.{known_option}
use Rattle.g4_parse.proofs.Turns.{more_here, proper_stack, under_here}
use Rattle.g4_parse.proofs.parser.Parser.chosen_far.Goals as goal

pub decide_far-requires-clause-condition : goal.decide_far-requires-clause-condition
decide_far-requires-clause-condition g c =
    let deciding = c.requires.deciding in
    (under_here g.B.Home.plan.net.net (g.P.Predicates.values c.args.predicates.now) (word_of c.args.tokens.now) deciding.0 c.args.self.now
    c.args.condition deciding.1 (c.requires.condition deciding.0 deciding.1)).0

pub decide_far-requires-clause-proper : goal.decide_far-requires-clause-proper
decide_far-requires-clause-proper g c =
    proper_stack g.B.Home.plan.net.net (length c.args.tokens.now) c.args.self.now c.as_slice-returns.result.now
    c.as_slice-returns.ensures.value c.requires.deciding

pub decide_far-requires-clause-more : goal.decide_far-requires-clause-more
decide_far-requires-clause-more g c =
    more_here g.B.Home.plan.net.net (length c.args.tokens.now) c.args.self.now c.requires.deciding

pub decide_far-requires-clause-known : goal.decide_far-requires-clause-known
decide_far-requires-clause-known g c =
    let foreseen = c.requires.foreseen in
    known_option g.B.Home.plan.net.net (g.P.Predicates.values c.args.predicates.now) (word_of c.args.tokens.now) c.args.self.now
    c.make.new.self c.args.condition c.as_slice-returns.result.now c.next-known.result c.as_slice-returns.ensures.value c.next-known.ensures
    c.requires.decides c.requires.condition
    (foreseen.0, foreseen.1, c.in_ok-make.ensures foreseen.0 foreseen.2)
