-- The ordered list: at the start, and after each character.
use Rattle.std.specs.Prelude.{◌≡◌, ℕ, List, [], ◌∷◌, ◌++◌, ◌⊎◌, Bool, true, false, Option, Some}
use Rattle.g4_net.specs.declared.network.State.{State}
use Rattle.g4_net.specs.declared.network.State.TheVariants.{End, Edge}
use Rattle.g4_net.specs.Network.{state_at}
use Rattle.g4_ordered.specs.declared.network.Reads.{Reads}
use Rattle.g4_ordered.specs.declared.network.Reads.TheVariants.{Characters, EndOfText}
use Rattle.g4_ordered.specs.Network.{LexerNetwork}
use Rattle.g4_ordered.specs.Configurations.{LexerConfig, In}
use Rattle.g4_ordered.specs.Leads.{Expands, ReadsTo}

-- the label takes a character
abbrev pub IsCharacters : Reads → Type 0
IsCharacters (Characters set) = Unit {0}
IsCharacters EndOfText = ⊥

-- the state has an edge that takes a character
abbrev pub IsCharacterBy : Option (State Reads) → Type 0
IsCharacterBy (Some (Edge label t)) = IsCharacters label
IsCharacterBy _ = ⊥

-- the state is the end of a rule
abbrev pub IsEndBy : Option (State Reads) → Type 0
IsEndBy (Some (End rule)) = Unit {0}
IsEndBy _ = ⊥

-- at its rule's end: the end of a rule, with no call open
abbrev pub IsAtEnd : LexerNetwork → LexerConfig → Type 0
IsAtEnd net c = IsEndBy (state_at net c.state) × (c.returns ≡ [])

-- kept are the configurations with an edge that takes a character, or at their rule's end
abbrev pub IsKept : LexerNetwork → LexerConfig → Type 0
IsKept net c = IsCharacterBy (state_at net c.state) ⊎ IsAtEnd net c

-- the list has the rule's end
abbrev pub HasEnd : LexerNetwork → List LexerConfig → ℕ → Type 0
HasEnd net list rule = (e : LexerConfig) × In e list × (e.rule ≡ rule) × IsAtEnd net e

-- no member is in the list twice
abbrev pub HasNoRepetition : List LexerConfig → Type 0
HasNoRepetition [] = Unit {0}
HasNoRepetition (c ∷ cs) = (In c cs → ⊥) × HasNoRepetition cs

-- what says that a configuration comes too late for a list, though it is not there
abbrev pub Lateness : Type 1
Lateness = List LexerConfig → LexerConfig → Type 0

-- in the first list nothing is late
abbrev pub Never : Lateness
Never list c = ⊥

-- In a step late is what has gone through a reluctant decision, once the list has its rule's end. In the rule
-- `C : '/*' (C | .)*? '*/'` what would take more comes before the end after an inner `*/`, and so it stays; after the last
-- `*/` the end comes first, and then it is alone.
abbrev pub BehindEnd : LexerNetwork → Lateness
BehindEnd net list c = (c.passed ≡ true) × HasEnd net list c.rule

-- lateness in a step, or in the first list
abbrev pub late_in : LexerNetwork → Bool → Lateness
late_in net true = BehindEnd net
late_in net false = Never

-- not appended: what is in the list already, and what is late
abbrev pub IsDropped : Lateness → List LexerConfig → LexerConfig → Type 0
IsDropped Late list c = In c list ⊎ Late list c

-- old becomes new as the configurations are appended in their order, but those that are dropped
pub data Appends (Late : List LexerConfig → LexerConfig → Type 0) (new : List LexerConfig) : List LexerConfig → List LexerConfig
    → Type 0 where
  done : Appends Late new [] new
  dropped : (c : LexerConfig) (more old : List LexerConfig) → IsDropped Late old c → Appends Late new more old
      → Appends Late new (c ∷ more) old
  appended : (c : LexerConfig) (more old : List LexerConfig) → (IsDropped Late old c → ⊥) → Appends Late new more (old ++ c ∷ [])
      → Appends Late new (c ∷ more) old

-- the members of a list that are kept, in their order
pub data Keeps (net : LexerNetwork) : List LexerConfig → List LexerConfig → Type 0 where
  no_more : Keeps net [] []
  keeps : (c : LexerConfig) (cs ds : List LexerConfig) → IsKept net c → Keeps net cs ds → Keeps net (c ∷ cs) (c ∷ ds)
  leaves : (c : LexerConfig) (cs ds : List LexerConfig) → (IsKept net c → ⊥) → Keeps net cs ds → Keeps net (c ∷ cs) ds

-- The list of what some configurations lead to: depth first in order of edges, each at its first place, the late ones
-- left out; then of those the kept.
pub record ListOf (net : LexerNetwork) (last : Bool) (Late : List LexerConfig → LexerConfig → Type 0)
    (starts list : List LexerConfig) : Type 0 where
  pub expansion : List LexerConfig
  pub all : List LexerConfig
  pub expands : Expands net last starts expansion
  pub appends : Appends Late all expansion []
  pub keeps : Keeps net all list

-- no character is left
abbrev pub is_last : List ℕ → Bool
is_last [] = true
is_last (a ∷ v) = false

-- where the edges that take the character lead, in the list's order
pub data ReadAll (net : LexerNetwork) (a : ℕ) : List LexerConfig → List LexerConfig → Type 0 where
  all_read : ReadAll net a [] []
  taken : (c d : LexerConfig) (cs ds : List LexerConfig) → ReadsTo net a c d → ReadAll net a cs ds → ReadAll net a (c ∷ cs) (d ∷ ds)
  refused : (c : LexerConfig) (cs ds : List LexerConfig) → ((d : LexerConfig) → ReadsTo net a c d → ⊥) → ReadAll net a cs ds
      → ReadAll net a (c ∷ cs) ds

-- The list is that before the text v, which ends the text w: at first that of the starts; after a character, that of what the
-- list before it reads to.
pub data ListAt (net : LexerNetwork) (starts : List LexerConfig) (w : List ℕ) : List ℕ → List LexerConfig → Type 0 where
  first : (list : List LexerConfig) → ListOf net (is_last w) Never starts list → ListAt net starts w w list
  step : (a : ℕ) (v : List ℕ) (list read next : List LexerConfig) → ListAt net starts w (a ∷ v) list → ReadAll net a list read
      → ListOf net (is_last v) (BehindEnd net) read next → ListAt net starts w v next
