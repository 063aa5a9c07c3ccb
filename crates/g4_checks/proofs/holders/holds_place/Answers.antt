use Rattle.g4_checks.proofs.holders.holds_place.Goals as goal

pub returns-in-LexerPredicate : goal.returns-in-LexerPredicate
returns-in-LexerPredicate c = rw c.in-LexerPredicate.is c.has_lexer_predicate.ensures

pub returns-in-UnknownPredicate : goal.returns-in-UnknownPredicate
returns-in-UnknownPredicate c = rw c.in-UnknownPredicate.is c.has_unknown_predicate.ensures
