-- What the arguments of commands name.
use Rattle.std.specs.Prelude.{ℕ, List, [], ◌∷◌, codes, filter, not}
use Rattle.std.specs.List.{flat_map}
use Rattle.std.specs.Str.{bytes_eq}
use Rattle.g4_grammar.specs.declared.token_types.TokenName.{TokenName}
use Rattle.g4_checks.specs.Names.{declared_channels, mode_names}
use Rattle.g4_source.specs.declared.source.Source.{Source}
use Rattle.g4_lexer_rules.specs.declared.tables.CommandTables.{CommandTables}

-- the names in order, each once: where it is first
abbrev pub each_once : List (List ℕ) → List (List ℕ)
each_once [] = []
each_once (name ∷ names) = name ∷ filter (λ other. not (bytes_eq other name)) (each_once names)

-- the names of the channels: the two that every grammar has, and those that it declares in order of the text
abbrev pub all_channels : Source → List (List ℕ)
all_channels source = codes "DEFAULT_TOKEN_CHANNEL" ∷ codes "HIDDEN" ∷ flat_map declared_channels source.prequels

-- the channels by number: a name that is there already takes no new number
abbrev pub channels_of : Source → List (List ℕ)
channels_of source = each_once (all_channels source)

-- the modes by number: the default mode, and then the others where they are named first
abbrev pub modes_of : Source → List (List ℕ)
modes_of source = each_once (mode_names source)

-- what the commands of a grammar can name, whose token types have these names
abbrev pub tables_of : Source → List TokenName → CommandTables
tables_of source types = record { types = types; channels = channels_of source; modes = modes_of source }
