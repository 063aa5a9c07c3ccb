-- The lexer of a grammar, as files are lexed by it.
use Rattle.std.specs.Prelude.{◌≡◌, ◌<◌, ◌≤◌, ℕ, All, List, map, Result, Ok, Err}
use Rattle.std.specs.List.{filter_map}
use Rattle.g4_tokens.specs.declared.symbol.TheConstants.{MOST_TYPES}
use Rattle.g4_source.specs.Blocks.{LexerRulesAreFull}
use Rattle.g4_lexer_rules.specs.Lexable.{CanBeLexed}
use Rattle.g4_net.specs.declared.network.TheConstants.{MOST_STATES}
use Rattle.g4_lexer_rules.specs.Commands.{command_of}
use Rattle.g4_lexer_rules.specs.declared.tables.CommandTables.{CommandTables}
use Rattle.g4_lexer.specs.declared.lexer.Lexer.{Lexer}
use Rattle.g4_lexer_rules.specs.LexNets.{IsLexNet}
use Rattle.g4_lexer_rules.specs.NetworkRules.{all_rules, lexer_states}
use Rattle.g4_lexer_rules.specs.declared.lex_net.LexNet.{LexNet}
use Rattle.g4_lexer_rules.specs.declared.lexer_rules.LexerRules.{LexerRules}
use Rattle.g4_lexer_rules.specs.declared.lex_net.LexFault.{LexFault}
use Rattle.g4_lexer_rules.specs.declared.lex_net.LexFault.TheVariants.{States, NoMemory}

-- the lexer by a network, the token types of its rules, and what their commands name
abbrev pub lexer_with : LexNet → List ℕ → CommandTables → Lexer
lexer_with made types tables = record {
  net = made.net;
  modes = made.modes;
  types = types;
  commands = map (map (filter_map (command_of tables))) made.commands;
}

-- The rules can be lexed with, each block of them has an alternative, and each has a token type or none; names of types have such types.
pub record CanBeMade (made : LexerRules) (tables : CommandTables) : Type 0 where
  pub literals : LexerRulesAreFull made.literals
  pub rules : LexerRulesAreFull made.rules
  pub lexed : CanBeLexed (all_rules made.literals made.rules)
  pub types : All (λ type. type ≤ MOST_TYPES) made.types
  pub named : All (λ name. name.symbol ≤ MOST_TYPES) tables.types

-- the lexer by the network of these rules, or that this would have too many states
abbrev pub GivesLexer : LexerRules → CommandTables → Result Lexer LexFault → Type 0
GivesLexer rules tables (Ok lexer) = (made : LexNet) × IsLexNet rules.literals rules.rules tables.modes made
    × (lexer ≡ lexer_with made rules.types tables)
GivesLexer rules tables (Err States) = MOST_STATES < lexer_states (all_rules rules.literals rules.rules)
GivesLexer rules tables (Err NoMemory) = Unit {0}
