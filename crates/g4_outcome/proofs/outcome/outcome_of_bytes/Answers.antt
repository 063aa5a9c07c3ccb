use Rattle.std.proofs.Common.{All, List, Ok, Err, refl, sym, ◌∙◌, subst}
use Rattle.g4_classes.specs.Classes.{IsSymbol}
use Rattle.g4_tokens.specs.declared.token.Token.{Token}
use Rattle.g4_tokens.specs.TokenList.{word_of}
use Rattle.g4_parse.specs.Parsing.{IsParse}
use Rattle.g4_outcome.specs.Grammars.{with_net}
use Rattle.g4_outcome.specs.Outcomes.{not_lexed, not_parsed, parsed}
use Rattle.g4_outcome.specs.Predicates.{values_of}
use Rattle.g4_parse.specs.Teaching.{IsPassed, IsTaught}
use Rattle.g4_outcome.proofs.Taught.{had_memory, lexed_taught, unlexed_taught}
use Rattle.g4_outcome.proofs.Meant.{fault_meant, tree_meant}
use Rattle.g4_outcome.proofs.Apart.{lexed_apart, parsed_apart}
use Rattle.g4_outcome.proofs.outcome.outcome_of_bytes.Goals as goal

pub returns-in-Err-clause-outcome : goal.returns-in-Err-clause-outcome
returns-in-Err-clause-outcome g c =
    not_lexed c.args.bytes c.in-Err.fault refl
    c.in-Err.ensures.lexing
    (lexed_apart _ (sym c.lexing_refused.ensures ∙ c.if-lexing_refused.false))

pub returns-in-Ok-parse-clause-outcome : goal.returns-in-Ok-parse-clause-outcome
returns-in-Ok-parse-clause-outcome g c =
    parsed c.args.bytes c.in-Ok.tokens c.in-Ok-parse.tree refl
    c.in-Ok.ensures.lexing
    (subst (λ (ts : List Token). IsParse g.B.Home.plan.net.net (values_of
    (with_net c.args.grammar.now g.B.Home.plan.net.net) c.in-Ok.tokens)
    (word_of ts) (Ok c.in-Ok-parse.tree)) c.as_slice.ensures
    c.in-Ok-parse.ensures.parse)

pub returns-else-parsing_refused-clause-outcome : goal.returns-else-parsing_refused-clause-outcome
returns-else-parsing_refused-clause-outcome g c =
    not_parsed c.args.bytes c.in-Ok.tokens c.in-Err-parse.fault refl
    c.in-Ok.ensures.lexing
    (subst (λ (ts : List Token). IsParse g.B.Home.plan.net.net (values_of
    (with_net c.args.grammar.now g.B.Home.plan.net.net) c.in-Ok.tokens)
    (word_of ts) (Err c.in-Err-parse.fault)) c.as_slice.ensures
    c.in-Err-parse.ensures.parse)
    (parsed_apart _ (sym c.parsing_refused.ensures ∙ c.if-parsing_refused.false))

pub returns-in-Ok-parse-clause-nested : goal.returns-in-Ok-parse-clause-nested
returns-in-Ok-parse-clause-nested g c = (c.in-Ok-parse.ensures.parse.0, c.in-Ok-parse.ensures.parse.2)

pub returns-in-Ok-parse-clause-meant : goal.returns-in-Ok-parse-clause-meant
returns-in-Ok-parse-clause-meant g c =
    let interpreter = with_net c.args.grammar.now g.B.Home.plan.net.net in
    tree_meant interpreter c.requires.usable c.in-Ok.tokens c.as_slice.result.now c.as_slice.ensures c.in-Ok-parse.tree
    c.in-Ok-parse.ensures.accepts c.in-Ok-parse.ensures.tree c.in-Ok-parse.ensures.whole

pub returns-else-parsing_refused-clause-meant : goal.returns-else-parsing_refused-clause-meant
returns-else-parsing_refused-clause-meant g c =
    let interpreter = with_net c.args.grammar.now g.B.Home.plan.net.net in
    fault_meant interpreter c.requires.usable c.in-Ok.tokens c.as_slice.result.now c.as_slice.ensures c.in-Err-parse.fault
    c.in-Err-parse.ensures.accepts

pub parse-requires-clause-symbols : goal.parse-requires-clause-symbols
parse-requires-clause-symbols g c =
    subst (λ (ts : List Token). All IsSymbol (word_of ts)) (sym c.as_slice.ensures) (c.in-Ok.ensures.symbols c.requires.usable.types)

pub returns-in-Err-clause-taught : goal.returns-in-Err-clause-taught
returns-in-Err-clause-taught g c =
    unlexed_taught g.B.Home.plan (with_net c.args.grammar.now g.B.Home.plan.net.net) c.args.bytes c.in-Err.fault _ c.in-Err.ensures.lexing
    (lexed_apart _ (sym c.lexing_refused.ensures ∙ c.if-lexing_refused.false))

pub returns-in-Ok-parse-clause-taught : goal.returns-in-Ok-parse-clause-taught
returns-in-Ok-parse-clause-taught g c =
    let p = g.B.Home.plan in
    lexed_taught p (with_net c.args.grammar.now p.net.net) c.args.bytes c.in-Ok.tokens _ _ c.in-Ok.ensures.lexing
    (c.in-Ok.ensures.symbols c.requires.usable.types) c.parse.ensures.kept
    (subst (λ (ts : List Token). IsTaught p (IsPassed p.net (values_of (with_net c.args.grammar.now p.net.net) c.in-Ok.tokens)
    (word_of ts)) c.args.pass.now c.parse.new.pass) c.as_slice.ensures
    (c.in-Ok-parse.ensures.taught tt))

pub returns-else-parsing_refused-clause-taught : goal.returns-else-parsing_refused-clause-taught
returns-else-parsing_refused-clause-taught g c =
    let p = g.B.Home.plan in
    lexed_taught p (with_net c.args.grammar.now p.net.net) c.args.bytes c.in-Ok.tokens _ _ c.in-Ok.ensures.lexing
    (c.in-Ok.ensures.symbols c.requires.usable.types) c.parse.ensures.kept
    (subst (λ (ts : List Token). IsTaught p (IsPassed p.net (values_of (with_net c.args.grammar.now p.net.net) c.in-Ok.tokens)
    (word_of ts)) c.args.pass.now c.parse.new.pass) c.as_slice.ensures
    (c.in-Err-parse.ensures.taught
    (had_memory c.in-Err-parse.fault (parsed_apart _ (sym c.parsing_refused.ensures ∙ c.if-parsing_refused.false)))))
