use Rattle.std.proofs.Common.{ℕ, List, [], ◌∷◌, Ok, ap, ◌∙◌, ◌≡◌}
use Rattle.std.proofs.lemmas.Result.{err_from_is_err_and}
use Rattle.g4_derivation.proofs.Returning.{has_loops}
use Rattle.g4_tokens.specs.Symbols.{eof}
use Rattle.g4_load.specs.Building.{HasLexer, Lays, names_of}
use Rattle.g4_load.specs.Stages.{goes_on}
use Rattle.g4_load.specs.declared.interpreter.Interpreter.{Interpreter}
use Rattle.g4_load.proofs.Built.{lexer_exit, stage_stops}
use Rattle.g4_load.proofs.interpreter.interpret.Goals as goal

pub returns-in_err-net-clause-interpreting : goal.returns-in_err-net-clause-interpreting
returns-in_err-net-clause-interpreting c =
    let p = err_from_is_err_and c.from_residual-in_err-net.result c.from_residual-in_err-net.ensures.1 in
    rw (p.1, p.2) (stage_stops (Lays c.args.start.now c.args.grammar.rules) (HasLexer c.args.grammar) c.in_err-net.field-0.0
    c.in_err-net.ensures.laid)

pub returns-in_err-lexer-clause-interpreting : goal.returns-in_err-lexer-clause-interpreting
returns-in_err-lexer-clause-interpreting c =
    let p = err_from_is_err_and c.from_residual-in_err-lexer.result c.from_residual-in_err-lexer.ensures.1 in
    rw (p.1, p.2) (lexer_exit c.args.start.now c.args.grammar c.in_ok-net.net _ c.in_ok-net.ensures.laid c.in_err-lexer.ensures.lexer)

pub returns-clause-interpreting : goal.returns-clause-interpreting
returns-clause-interpreting c =
    let grammar = c.args.grammar in
    let net = c.in_ok-net.net in
    let lexer = c.in_ok-lexer.lexer in
    let made : List (List ℕ) → List (List ℕ) → Interpreter =
    λ names flags. record {
      names = names;
      rules = grammar.rules;
      predicates = grammar.predicates;
      flags = flags;
      shown = grammar.shown;
      lexer = lexer;
      net = net;
    } in
    let flags = c.new-2.result in
    let no_flags : flags ≡ [] = c.new-2.ensures ∙ c.new.ensures.items in
    let named = c.in_ok-names.ensures ∙ ap names_of c.as_slice.ensures.rules in
    goes_on net (Ok (made c.in_ok-names.names flags)) c.in_ok-net.ensures.laid
    (goes_on lexer (Ok (made c.in_ok-names.names flags)) c.in_ok-lexer.ensures.lexer
    (ap (λ (names : List (List ℕ)). Ok (made names flags)) named ∙ ap (λ (given : List (List ℕ)). Ok (made
    (names_of grammar.rules) given)) no_flags))

pub returns-clause-usable : goal.returns-clause-usable
returns-clause-usable c =
    let parsing = c.in_ok-net.ensures.parsing in
    record {
      rewritable = c.as_slice.ensures.rewritable;
      parsing = parsing;
      loops = has_loops (eof ∷ []) c.args.grammar.rules parsing.built.0 c.in_ok-net.net c.as_slice.ensures.rewritable parsing.built.1;
      lexable = c.in_ok-lexer.ensures.lexable;
      types = c.in_ok-lexer.ensures.types;
    }
