-- Where a configuration leads by characters too, the order and the list forgotten.
use Rattle.std.specs.Prelude.{ℕ, List, ◌∷◌}
use Rattle.g4_ordered.specs.Network.{LexerNetwork}
use Rattle.g4_ordered.specs.Configurations.{LexerConfig, In}
use Rattle.g4_ordered.specs.Leads.{leads, ReadsTo}
use Rattle.g4_ordered.specs.Lists.{is_last}

-- c before the text w leads to d before the text v, by any number of steps and characters
pub data Walks (net : LexerNetwork) (c : LexerConfig) (w : List ℕ) : LexerConfig → List ℕ → Type 0 where
  here : Walks net c w c w
  leading : (d e : LexerConfig) (v : List ℕ) → Walks net c w d v → In e (leads net (is_last v) d) → Walks net c w e v
  reading : (a : ℕ) (d e : LexerConfig) (v : List ℕ) → Walks net c w d (a ∷ v) → ReadsTo net a d e → Walks net c w e v
