-- A grammar that files are parsed with, and its network.
use Rattle.g4_load.specs.declared.interpreter.Interpreter.{Interpreter}
use Rattle.g4_net.specs.Network.{ParserNetwork}
use Rattle.g4_outcome.specs.declared.grammar.Grammar.{Grammar}

-- both together
abbrev pub with_net : Grammar → ParserNetwork → Interpreter
with_net grammar net = record {
  names = grammar.names;
  rules = grammar.rules;
  predicates = grammar.predicates;
  flags = grammar.flags;
  shown = grammar.shown;
  lexer = grammar.lexer;
  net = net;
}
