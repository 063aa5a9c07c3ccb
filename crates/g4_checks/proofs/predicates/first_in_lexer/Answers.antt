use Rattle.g4_checks.specs.Uses.{IsLexerPredicate}
use Rattle.g4_checks.specs.Views.{use_view}
use Rattle.g4_source.proofs.Firsts.{one_reported, all_passed}
use Rattle.g4_checks.proofs.predicates.first_in_lexer.Goals as goal

pub returns-in-Some : goal.returns-in-Some
returns-in-Some c =
    one_reported IsLexerPredicate use_view c.args.atoms.now c.loop-atom.atom-index c.atom-item.result c.in-Some.place
    c.loop-atom-test.true c.atom-item.is c.in-Some.ensures c.loop-atom.invariant

pub returns : goal.returns
returns c = all_passed IsLexerPredicate use_view c.args.atoms.now c.loop-atom.atom-index c.loop-atom-test.false c.loop-atom.invariant
