-- The names that are there.
use Rattle.std.specs.Prelude.{ℕ, List, [], ◌∷◌, Bool, codes}
use Rattle.std.specs.List.{flat_map, list_any}
use Rattle.std.specs.Str.{bytes_eq}
use Rattle.g4_source.specs.declared.prequel.Prequel.{Prequel}
use Rattle.g4_source.specs.declared.prequel.Prequel.TheVariants.{Options, Import, Tokens, Channels}
use Rattle.g4_source.specs.declared.source.Source.{Source}

-- the text is one of the names
abbrev pub is_one_of : List (List ℕ) → List ℕ → Bool
is_one_of names text = list_any (bytes_eq text) names

-- the names of the modes: the default mode, and those of the grammar
abbrev pub mode_names : Source → List (List ℕ)
mode_names source = codes "DEFAULT_MODE" ∷ source.modes

-- the channels that a prequel declares
abbrev pub declared_channels : Prequel → List (List ℕ)
declared_channels (Options settings) = []
declared_channels (Import place names) = []
declared_channels (Tokens place names) = []
declared_channels (Channels place names) = names

-- the names of the channels: those that every grammar has, and those that it declares
abbrev pub channel_names : Source → List (List ℕ)
channel_names source = codes "HIDDEN" ∷ codes "DEFAULT_TOKEN_CHANNEL" ∷ flat_map declared_channels source.prequels
