-- What entries are, given the lists of return states.
use Rattle.std.specs.Prelude.{◌≡◌, ℕ, ◌<◌, List, [], Some, length, map, reverse, slice_index_or, Option, None, ◌∷◌}
use Rattle.g4_chars.specs.declared.range.Range.{Range}
use Rattle.g4_chars.specs.CharSets.{Has}
use Rattle.g4_net.specs.declared.network.State.TheVariants.{Edge}
use Rattle.g4_net.specs.Network.{state_at}
use Rattle.g4_ordered.specs.declared.network.Reads.TheVariants.{Characters}
use Rattle.g4_ordered.specs.Network.{LexerNetwork}
use Rattle.g4_ordered.specs.Configurations.{LexerConfig, In}
use Rattle.g4_matching.specs.declared.entry.Entry.{Entry}

-- the configuration of an entry
abbrev pub config_of : List (List ℕ) → Entry → LexerConfig
config_of lists e = record {
  rule = e.rule;
  alternative = e.alternative;
  state = e.state;
  returns = slice_index_or lists e.returns [];
  passed = e.passed;
}

-- those of entries, in their order
abbrev pub configs_of : List (List ℕ) → List Entry → List LexerConfig
configs_of lists es = map (config_of lists) es

-- those of entries that wait, the next first
abbrev pub stacked : List (List ℕ) → List Entry → List LexerConfig
stacked lists es = configs_of lists (reverse es)

-- the entry's return states are in the store
abbrev pub IsKnown : List (List ℕ) → Entry → Type 0
IsKnown lists e = e.returns < length lists

-- those of each entry are
abbrev pub AreKnown : List (List ℕ) → List Entry → Type 0
AreKnown lists es = (e : Entry) → In e es → IsKnown lists e

-- the same entry at another state
abbrev pub placed : Entry → ℕ → Entry
placed e t = record e { state = t }

-- the entry at this state, if there is one
abbrev pub moved_to : Entry → Option ℕ → List Entry
moved_to e None = []
moved_to e (Some t) = placed e t ∷ []

-- an edge of the state takes the character, and leads to t
abbrev pub Takes : LexerNetwork → ℕ → ℕ → ℕ → Type 0
Takes net a p t = (set : List Range) × (state_at net p ≡ Some (Edge (Characters set) t)) × Has set a
