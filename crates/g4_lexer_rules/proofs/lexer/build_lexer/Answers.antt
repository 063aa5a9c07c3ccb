use Rattle.std.proofs.Common.{Ok, sym, subst}
use Rattle.g4_lexer_rules.specs.Lexers.{CanBeMade, GivesLexer}
use Rattle.g4_lexer_rules.specs.declared.lexer_rules.LexerRules.{LexerRules}
use Rattle.g4_lexer_rules.specs.declared.tables.CommandTables.{CommandTables}
use Rattle.g4_lexer_rules.proofs.LexerMade.{lexable, network_of, token_types}
use Rattle.g4_lexer_rules.proofs.lexer.build_lexer.Goals as goal

pub returns-clause-lexer : goal.returns-clause-lexer
returns-clause-lexer c =
    let parts : LexerRules × CommandTables = c.into_parts-rules.result in
    let made = c.in_ok-made.made in
    let net = network_of parts.0.literals _ parts.0.rules _ parts.1.modes _ made c.into_vec.ensures c.into_vec-2.ensures
    c.as_slice-modes.ensures c.in_ok-made.ensures in
    subst (λ (p : LexerRules × CommandTables). GivesLexer p.0 p.1 (Ok c.in_ok-lexer.lexer)) c.into_parts-rules.ensures.parts
    (made, net, c.in_ok-lexer.ensures.made)

pub returns-clause-lexable : goal.returns-clause-lexable
returns-clause-lexable c =
    let parts : LexerRules × CommandTables = c.into_parts-rules.result in
    let made = c.in_ok-made.made in
    let net = network_of parts.0.literals _ parts.0.rules _ parts.1.modes _ made c.into_vec.ensures c.into_vec-2.ensures
    c.as_slice-modes.ensures c.in_ok-made.ensures in
    let can = subst (λ (p : LexerRules × CommandTables). CanBeMade p.0 p.1) (sym c.into_parts-rules.ensures.parts)
    c.into_parts-rules.ensures.can in
    lexable parts.0 made c.in_ok-lexer.lexer parts.0.types parts.1 net c.in_ok-lexer.ensures.made can

pub returns-clause-types : goal.returns-clause-types
returns-clause-types c =
    let parts : LexerRules × CommandTables = c.into_parts-rules.result in
    let can = subst (λ (p : LexerRules × CommandTables). CanBeMade p.0 p.1) (sym c.into_parts-rules.ensures.parts)
    c.into_parts-rules.ensures.can in
    token_types c.in_ok-made.made parts.0.types parts.1 c.in_ok-lexer.lexer c.in_ok-lexer.ensures.made can.types
    (c.in_ok-lexer.ensures.types can.named)
