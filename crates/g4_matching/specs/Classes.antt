-- Classes of characters.
use Rattle.std.specs.Prelude.{◌≡◌, ℕ, ◌<◌, ◌↔◌, List, [], Some, slice_get}
use Rattle.g4_chars.specs.declared.range.Range.{Range}
use Rattle.g4_chars.specs.CharSets.{Has}
use Rattle.g4_net.specs.declared.network.State.{State}
use Rattle.g4_net.specs.declared.network.State.TheVariants.{Decision, End, Edge, Call, Predicate, Level, Action, Empty}
use Rattle.g4_net.specs.Network.{state_at}
use Rattle.g4_ordered.specs.declared.network.Reads.{Reads}
use Rattle.g4_ordered.specs.declared.network.Reads.TheVariants.{Characters, EndOfText}
use Rattle.g4_ordered.specs.Network.{LexerNetwork}
use Rattle.g4_matching.specs.Partitions.{Classing, class_in}

-- no edge of the network distinguishes the characters
abbrev pub AreAlike : LexerNetwork → ℕ → ℕ → Type 0
AreAlike net a b = (p t : ℕ) (set : List Range) → state_at net p ≡ Some (Edge (Characters set) t) → Has set a ↔ Has set b

-- The classes of characters by a network: two of them have one class where no edge distinguishes them, and only there. So no fewer
-- classes would do.
pub record AreClasses (net : LexerNetwork) (c : Classing) : Type 0 where
  pub same : (a b : ℕ) → (class_in c a ≡ class_in c b) ↔ AreAlike net a b
  pub within : (a : ℕ) → class_in c a < c.count

-- the list has the classes of the first characters
abbrev pub IsTable : Classing → List ℕ → Type 0
IsTable c table = (a class : ℕ) → slice_get table a ≡ Some class → class ≡ class_in c a

-- the characters that a label takes
abbrev pub ranges_by : Reads → List Range
ranges_by (Characters set) = set
ranges_by EndOfText = []

-- those that the edge of a state takes; none, if it has no such edge
abbrev pub ranges_at : State Reads → List Range
ranges_at (Decision targets) = []
ranges_at (End rule) = []
ranges_at (Edge label t) = ranges_by label
ranges_at (Call rule level back) = []
ranges_at (Predicate k t) = []
ranges_at (Level q t) = []
ranges_at (Action t) = []
ranges_at (Empty t) = []

-- the edge of each of the states takes both of the characters or neither
abbrev pub AreAlikeIn : List (State Reads) → ℕ → ℕ → Type 0
AreAlikeIn states a b = (p : ℕ) (s : State Reads) → slice_get states p ≡ Some s → Has (ranges_at s) a ↔ Has (ranges_at s) b

-- two characters have one class where the edges of the states do not distinguish them
abbrev pub TellsStates : List (State Reads) → Classing → Type 0
TellsStates states c = (a b : ℕ) → (class_in c a ≡ class_in c b) ↔ AreAlikeIn states a b
