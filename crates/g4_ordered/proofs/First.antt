-- The first list has all that is kept and that the starts lead to.
use Rattle.std.proofs.Common.{ℕ, List, ◌↔◌, arith}
use Rattle.g4_ordered.specs.Network.{LexerNetwork}
use Rattle.g4_ordered.specs.Configurations.{LexerConfig, In}
use Rattle.g4_ordered.specs.Leads.{Reaches}
use Rattle.g4_ordered.specs.Lists.{IsKept, Never, ListOf, ListAt, is_last}
use Rattle.g4_ordered.proofs.Members.{list_sound, list_complete}
use Rattle.g4_ordered.proofs.Once.{at_start}

-- it has these and no others
pub first_has_all : (net : LexerNetwork) (starts list : List LexerConfig) (w : List ℕ) (c : LexerConfig) → ListAt net starts w w list
    → In c list ↔ (IsKept net c × ((s : LexerConfig) × In s starts × Reaches net (is_last w) s c))
first_has_all net starts list w c at = (
  λ i. list_sound net (is_last w) Never starts list h c i,
  λ k. list_complete net (is_last w) Never starts list h k.1.0 c (λ l late. late) k.0 k.1.1 k.1.2,
)
  where
    h : ListOf net (is_last w) Never starts list
    h = at_start net starts w w list at (omega arith)
