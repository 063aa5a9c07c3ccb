use Rattle.std.proofs.Common.{List, All, map, sym, ap, ◌∙◌, subst}
use Rattle.std.specs.List.{filter_map}
use Rattle.g4_lexer_rules.specs.Commands.{command_of}
use Rattle.g4_lexer_rules.specs.declared.tables.CommandTables.{CommandTables}
use Rattle.g4_lexer.specs.Lexers.{GivesTokenType}
use Rattle.g4_lexer.specs.declared.command.LexerCommand.{LexerCommand}
use Rattle.g4_lexer_rules.proofs.TokenTypes.{all_give}
use Rattle.g4_lexer_rules.proofs.making.lexer_commands.Goals as goal

pub returns-clause-types : goal.returns-clause-types
returns-clause-types c =
    let made = c.in_ok-made.ensures ∙ ap (λ (tables : CommandTables). map (map (filter_map (command_of tables))) c.args.commands.now)
    c.in_ok-numbers.ensures in
    λ low. subst (λ (rules : List (List (List LexerCommand))). All (All (All GivesTokenType)) rules) (sym made)
    (all_give c.args.tables.now low c.args.commands.now)
