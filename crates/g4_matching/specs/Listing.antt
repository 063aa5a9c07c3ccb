-- The list that was made last.
use Rattle.std.specs.Prelude.{List, Bool, ℕ}
use Rattle.g4_ordered.specs.Network.{LexerNetwork}
use Rattle.g4_ordered.specs.Configurations.{LexerConfig}
use Rattle.g4_ordered.specs.Lists.{ListOf, ReadAll, BehindEnd}
use Rattle.g4_matching.specs.declared.listing.Listing.{Listing}
use Rattle.g4_matching.specs.Entries.{AreKnown, configs_of}

-- the store of return states
abbrev pub returns_of : Listing → List (List ℕ)
returns_of m = m.expanding.waiting.returns

-- the configurations of the list
abbrev pub listed : Listing → List LexerConfig
listed m = configs_of m.expanding.waiting.returns m.list.items

-- their return states are in the store
abbrev pub IsReady : Listing → Type 0
IsReady m = AreKnown m.expanding.waiting.returns m.list.items

-- the list after a character
pub record IsNext (net : LexerNetwork) (last : Bool) (a : ℕ) (list next : List LexerConfig) : Type 0 where
  pub read : List LexerConfig
  pub reads : ReadAll net a list read
  pub makes : ListOf net last (BehindEnd net) read next
