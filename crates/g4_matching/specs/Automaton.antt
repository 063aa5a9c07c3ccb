-- Learned lists, and which comes after which.
use Rattle.std.specs.Prelude.{◌≡◌, ℕ, ◌+◌, ◌*◌, ◌<◌, List, [], Bool, true, false, Option, Some, length, slice_get, slice_index_or}
use Rattle.g4_ordered.specs.declared.start.Start.{Start}
use Rattle.g4_ordered.specs.Network.{LexerNetwork}
use Rattle.g4_ordered.specs.Configurations.{LexerConfig}
use Rattle.g4_ordered.specs.Starts.{starts_of}
use Rattle.g4_ordered.specs.Lists.{ListOf, Never}
use Rattle.g4_matching.specs.Classes.{AreClasses}
use Rattle.g4_matching.specs.Partitions.{Classing, class_in}
use Rattle.g4_matching.specs.declared.automaton.Automaton.{Automaton}
use Rattle.g4_matching.specs.declared.entry.Entry.{Entry}
use Rattle.g4_matching.specs.declared.learned.Learned.{Learned}
use Rattle.g4_matching.specs.declared.modes.Modes.{Modes}
use Rattle.g4_matching.specs.declared.rule_end.RuleEnd.{RuleEnd}
use Rattle.g4_matching.specs.Ends.{TellsEnd}
use Rattle.g4_matching.specs.Entries.{AreKnown, configs_of}
use Rattle.g4_matching.specs.Listing.{IsNext, returns_of, listed}

-- the learned list with this number has these configurations
abbrev pub HasList : List (List ℕ) → List Learned → ℕ → List LexerConfig → Type 0
HasList returns lists n list = (l : Learned) × (slice_get lists n ≡ Some l) × (configs_of returns l.entries.items ≡ list)

-- where matches may begin in a mode
abbrev pub starts_in : List (List Start) → ℕ → List LexerConfig
starts_in modes mode = starts_of (slice_index_or modes mode [])

-- the second list is the one after the first by the character, where more characters follow
pub record StepsTo (net : LexerNetwork) (returns : List (List ℕ)) (lists : List Learned) (a from to : ℕ) : Type 0 where
  pub list : List LexerConfig
  pub next : List LexerConfig
  pub before : HasList returns lists from list
  pub after : HasList returns lists to next
  pub is_next : IsNext net false a list next

-- the list is the first one of a mode, where the text is not empty
pub record Begins (net : LexerNetwork) (starts : List LexerConfig) (returns : List (List ℕ)) (lists : List Learned) (n : ℕ) : Type 0 where
  pub list : List LexerConfig
  pub has : HasList returns lists n list
  pub is_first : ListOf net false Never starts list

-- the cell of a list and a character
abbrev pub cell_of : Classing → ℕ → ℕ → ℕ
cell_of classes list a = list * classes.count + class_in classes a

-- What is learned is right: each list gives its end; what is noted for a list and a class is the list after it, by each character of
-- that class; what is noted for a mode is its first list.
pub record AreLearned (net : LexerNetwork) (modes : List (List Start)) (classes : Classing) (returns : List (List ℕ))
    (lists : List Learned) (next firsts : List (Option ℕ)) : Type 0 where
  pub classes_are : AreClasses net classes
  pub cells : length next ≡ length lists * classes.count
  pub known : (n : ℕ) (l : Learned) → slice_get lists n ≡ Some l → AreKnown returns l.entries.items
  pub ends : (n : ℕ) (l : Learned) → slice_get lists n ≡ Some l → TellsEnd net (configs_of returns l.entries.items) l.end
  pub noted : (a from to : ℕ) → from < length lists → slice_get next (cell_of classes from a) ≡ Some (Some to)
      → StepsTo net returns lists a from to
  pub begun : (mode n : ℕ) → slice_get firsts mode ≡ Some (Some n) → Begins net (starts_in modes mode) returns lists n

-- so it is in an automaton for these modes
abbrev pub IsSound : Modes → Automaton → Type 0
IsSound modes a = AreLearned modes.net.now modes.starts.now a.classes (returns_of a.listing) a.lists.items a.next.items a.firsts.items

-- the automaton has a list with this number
abbrev pub Has : Automaton → ℕ → List LexerConfig → Type 0
Has a n list = HasList (returns_of a.listing) a.lists.items n list

-- and it has these entries
abbrev pub HasEntries : Automaton → ℕ → List Entry → Type 0
HasEntries a n entries = (l : Learned) × (slice_get a.lists.items n ≡ Some l) × (l.entries.items ≡ entries)

-- the lists stay under their numbers
abbrev pub KeepsLists : Automaton → Automaton → Type 0
KeepsLists old new = (n : ℕ) (l : Learned) → slice_get old.lists.items n ≡ Some l → slice_get new.lists.items n ≡ Some l

-- nothing is learned
pub record IsForgotten (a : Automaton) : Type 0 where
  pub lists : a.lists.items ≡ []
  pub next : a.next.items ≡ []
  pub firsts : (mode n : ℕ) → slice_get a.firsts.items mode ≡ Some (Some n) → ⊥

-- the list that was made last is the one after a learned list, which stays
pub record MakesNext (net : LexerNetwork) (last : Bool) (a from : ℕ) (old new : Automaton) : Type 0 where
  pub list : List LexerConfig
  pub before : Has old from list
  pub stays : Has new from list
  pub is_next : IsNext net last a list (listed new.listing)

-- the list with the number is the one after a list, where more characters follow
pub record LeadsTo (net : LexerNetwork) (a from : ℕ) (old new : Automaton) (to : ℕ) : Type 0 where
  pub list : List LexerConfig
  pub next : List LexerConfig
  pub before : Has old from list
  pub after : Has new to next
  pub is_next : IsNext net false a list next

-- the end is what the list gives after the last character
pub record TellsLast (net : LexerNetwork) (a from : ℕ) (old : Automaton) (end : Option RuleEnd) : Type 0 where
  pub list : List LexerConfig
  pub next : List LexerConfig
  pub before : Has old from list
  pub is_next : IsNext net true a list next
  pub tells : TellsEnd net next end
