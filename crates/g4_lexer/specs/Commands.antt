-- What the commands of a match do, in their order.
use Rattle.std.specs.Prelude.{◌≡◌, ℕ, List, [], ◌∷◌, Option, Some, None, Result, Ok, Err}
use Rattle.std.specs.Option.{option_and_then}
use Rattle.g4_base.specs.declared.place.Place.{Place}
use Rattle.g4_lexer.specs.declared.command.LexerCommand.{LexerCommand}
use Rattle.g4_lexer.specs.declared.command.LexerCommand.TheVariants as commands
use Rattle.g4_lexer.specs.declared.effects.Effects.{Effects}
use Rattle.g4_lexer.specs.declared.effects.Fate.TheVariants as fates
use Rattle.g4_lexer.specs.declared.fault.LexFault.{LexFault}
use Rattle.g4_lexer.specs.declared.fault.LexFault.TheVariants as faults

-- going back to the mode that was pushed last; with nothing pushed there is none
abbrev pub gone_back : Effects → List ℕ → Option Effects
gone_back e [] = None
gone_back e (mode ∷ pushed) = Some (record e { mode = mode; pushed = pushed })

-- After one command. Of `skip`, `more` and `type` the last decides.
abbrev pub after_command : LexerCommand → Effects → Option Effects
after_command commands.Skip e = Some (record e { fate = fates.Dropped })
after_command commands.More e = Some (record e { fate = fates.Kept })
after_command (commands.Type symbol) e = Some (record e { fate = fates.Token symbol })
after_command (commands.Channel channel) e = Some (record e { channel = channel })
after_command (commands.Mode mode) e = Some (record e { mode = mode })
after_command (commands.PushMode mode) e = Some (record e { mode = mode; pushed = e.mode ∷ e.pushed })
after_command commands.PopMode e = gone_back e e.pushed

-- after commands, one after another, unless one of them finds no mode to go back to
abbrev pub after_commands : List LexerCommand → Effects → Option Effects
after_commands [] e = Some e
after_commands (command ∷ more) e = option_and_then (after_commands more) (after_command command e)

-- carrying out has these effects, or it finds no mode to go back to in the match that begins at the place, unless memory runs out
abbrev pub CarriesOut : Option Effects → Place → Effects → Result (Unit {0}) LexFault → Type 0
CarriesOut wanted place e (Ok done) = wanted ≡ Some e
CarriesOut wanted place e (Err (faults.NotUtf8 at)) = ⊥
CarriesOut wanted place e (Err (faults.NoToken at character)) = ⊥
CarriesOut wanted place e (Err (faults.EmptyModeStack at)) = (wanted ≡ None) × (at ≡ place)
CarriesOut wanted place e (Err (faults.Tokens at)) = ⊥
CarriesOut wanted place e (Err faults.NoMemory) = Unit {0}
