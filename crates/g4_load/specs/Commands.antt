-- The commands of a grammar's lexer rules, and what its lexer has of them.
use Rattle.std.specs.Prelude.{◌≡◌, List, Some, IsSome, map}
use Rattle.g4_source.specs.declared.rule.Command.{Command}
use Rattle.g4_lexer.specs.declared.lexer.Lexer.{Lexer}
use Rattle.g4_lexer_rules.specs.NetworkRules.{all_rules, commands_of}
use Rattle.g4_lexer_rules.specs.Commands.{command_of}
use Rattle.g4_load.specs.declared.loading.Loaded.{Loaded}

-- the command does something in the lexer of the grammar
abbrev pub IsCarriedOut : Loaded → Command → Type 0
IsCarriedOut grammar command = IsSome (command_of grammar.lexer.1 command)

-- the commands as they are written, for each rule of the grammar's lexer and each alternative of it
abbrev pub written_commands : Loaded → List (List (List Command))
written_commands grammar = commands_of (all_rules grammar.lexer.0.literals grammar.lexer.0.rules)

-- the lexer has what each of these commands does, in the same order, so none is passed over
abbrev pub CarriesOutAll : Loaded → Lexer → Type 0
CarriesOutAll grammar lexer = map (map (map Some)) lexer.commands ≡ map (map (map (command_of grammar.lexer.1))) (written_commands grammar)
