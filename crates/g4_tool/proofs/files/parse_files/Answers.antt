use Rattle.std.proofs.Common.{◌≡◌, ℕ, sym, subst}
use Rattle.std.specs.Prelude.{IfOk}
use Rattle.g4_load.specs.Usable.{IsUsable}
use Rattle.g4_load.specs.declared.interpreter.Interpreter.{Interpreter}
use Rattle.g4_net.specs.Network.{ParserNetwork}
use Rattle.g4_outcome.specs.declared.grammar.Grammar.{Grammar}
use Rattle.g4_outcome.specs.Grammars.{with_net}
use Rattle.g4_tool.specs.Files.{AreParsed}
use Rattle.g4_tool.specs.Learned.{IsTold}
use Rattle.g4_tool.specs.declared.files.ParsedRun.{ParsedRun}
use Rattle.g4_tool.proofs.files.parse_files.Goals as goal

-- the interpreter without its network
abbrev grammar_of : Interpreter → Grammar
grammar_of i = record {
  names = i.names;
  rules = i.rules;
  predicates = i.predicates;
  flags = i.flags;
  shown = i.shown;
  lexer = i.lexer;
}

pub parse_opened-requires-clause-usable : goal.parse_opened-requires-clause-usable
parse_opened-requires-clause-usable g c κs within =
    let grammar = grammar_of c.args.interpreter in
    subst (λ (n : ParserNetwork). IsUsable (with_net grammar n)) (sym c.in_ok-opened.ensures.parts.0) c.requires.usable

pub returns-clause-parsed : goal.returns-clause-parsed
returns-clause-parsed g c =
    let grammar = grammar_of c.args.interpreter in
    subst (λ (n : ParserNetwork).
    IfOk c.parse_opened.result (λ (run : ParsedRun).
    AreParsed c.args.output (with_net grammar n) c.args.names.now c.args.inputs.items run.parsed))
    c.in_ok-opened.ensures.parts.0 c.parse_opened.ensures.parsed

pub returns-clause-told : goal.returns-clause-told
returns-clause-told g c =
    let grammar = grammar_of c.args.interpreter in
    subst (λ (n : ParserNetwork).
    IfOk c.parse_opened.result (λ (run : ParsedRun). IsTold c.args.asked c.args.rows (with_net grammar n) c.args.inputs.items run.learned))
    c.in_ok-opened.ensures.parts.0
    (subst (λ (rows : ℕ).
    IfOk c.parse_opened.result (λ (run : ParsedRun).
    IsTold c.args.asked rows (with_net grammar c.in_ok-opened.opened.plan.net.net) c.args.inputs.items run.learned))
    c.in_ok-opened.ensures.parts.1 c.parse_opened.ensures.told)
