use Rattle.std.proofs.Common.{refl, drop, reverse, arith}
use Rattle.g4_full.specs.declared.full.Settled.TheVariants.{Chosen, NoViable}
use Rattle.g4_learned.proofs.Rests.{ends_ahead}
use Rattle.g4_tokens.specs.TokenList.{word_of}
use Rattle.g4_decide.proofs.Choosing.{not_viable, settled, settled_ahead, within_tokens}
use Rattle.g4_decide.proofs.Known.{known_chosen}
use Rattle.g4_decide.proofs.within.decide_within.Goals as goal

pub returns-in-Some-clause-decided : goal.returns-in-Some-clause-decided
returns-in-Some-clause-decided g c =
    known_chosen c.args.net.now c.args.decision c.args.condition c.args.from (reverse c.args.returns.now) c.args.tokens.now c.args.known
    c.in-Some.alternative c.in-Some.is c.requires.ready c.requires.condition c.requires.proper c.requires.ends c.requires.more
    c.requires.matters c.requires.known

pub look-requires-clause-ends : goal.look-requires-clause-ends
look-requires-clause-ends g c = ends_ahead c.args.from c.args.tokens.now c.requires.ends c.requires.more

pub overflow_add-result : goal.overflow_add-result
overflow_add-result g c =
    let choice = not_viable c.args.net.now c.args.decision c.args.condition c.requires.condition (drop c.args.from
    (word_of c.args.tokens.now)) (reverse c.args.returns.now) c.requires.matters.0 c.requires.matters.1 c.requires.matters.2 c.in-NoViable.k
    (settled_ahead c.args.net.now c.args.decision c.args.condition c.args.from (reverse c.args.returns.now) c.args.tokens.now c.args.most
    c.in_ok-ahead.ahead c.in-Settled.settled (NoViable c.in-NoViable.k) c.in-Settled.is c.in-NoViable.is c.in_ok-ahead.ensures) in
    let less = within_tokens c.args.from c.in-NoViable.k c.args.tokens.now c.requires.more choice.1 in
    omega (arith, c.requires.few, less)

pub returns-in-NoViable-clause-decided : goal.returns-in-NoViable-clause-decided
returns-in-NoViable-clause-decided g c =
    let choice = not_viable c.args.net.now c.args.decision c.args.condition c.requires.condition (drop c.args.from
    (word_of c.args.tokens.now)) (reverse c.args.returns.now) c.requires.matters.0 c.requires.matters.1 c.requires.matters.2 c.in-NoViable.k
    (settled_ahead c.args.net.now c.args.decision c.args.condition c.args.from (reverse c.args.returns.now) c.args.tokens.now c.args.most
    c.in_ok-ahead.ahead c.in-Settled.settled (NoViable c.in-NoViable.k) c.in-Settled.is c.in-NoViable.is c.in_ok-ahead.ensures) in
    (c.in-NoViable.k, choice.0, refl)

pub returns-in-Chosen-clause-decided : goal.returns-in-Chosen-clause-decided
returns-in-Chosen-clause-decided g c =
    settled c.args.net.now c.args.decision c.args.condition c.requires.condition (drop c.args.from (word_of c.args.tokens.now))
    (reverse c.args.returns.now) c.requires.matters.0 c.requires.matters.1 c.requires.matters.2 c.in-Chosen.alternative
    (settled_ahead c.args.net.now c.args.decision c.args.condition c.args.from (reverse c.args.returns.now) c.args.tokens.now c.args.most
    c.in_ok-ahead.ahead c.in-Settled.settled (Chosen c.in-Chosen.alternative) c.in-Settled.is c.in-Chosen.is c.in_ok-ahead.ensures)
