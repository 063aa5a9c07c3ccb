-- Which alternatives of a decision fit the rest of a word, by what the network spells. Nothing here looks ahead.
use Rattle.std.specs.Prelude.{◌≡◌, ◌≤◌, ℕ, List, [], ◌∷◌}
use Rattle.g4_net.specs.Network.{ParserNetwork, IsFirst}
use Rattle.g4_net.specs.Spelling.{SpellsWord}

-- each of these states in turn spells a part of what is in w before z, and nothing else is there
abbrev pub SpellsEach : ParserNetwork → List ℕ → List ℕ → List ℕ → Type 0
SpellsEach net [] w z = w ≡ z
SpellsEach net (p ∷ ps) w z = (v : List ℕ) × SpellsWord net p w v × SpellsEach net ps v z

-- the word is one that the state spells, and then each of the return states, newest first
abbrev pub FitsFrom : ParserNetwork → ℕ → List ℕ → List ℕ → Type 0
FitsFrom net p returns w = SpellsEach net (p ∷ returns) w []

-- alternative i of the decision fits the word, above the return states
abbrev pub Fits : ParserNetwork → ℕ → ℕ → List ℕ → List ℕ → Type 0
Fits net d i returns w = (t : ℕ) × IsFirst net d i t × FitsFrom net t returns w

-- one of these alternatives fits
abbrev pub SomeFits : ParserNetwork → ℕ → (ℕ → Type 0) → List ℕ → List ℕ → Type 0
SomeFits net d A returns w = (i : ℕ) × A i × Fits net d i returns w

-- i is the least of these alternatives that fits
pub record IsLeastThatFits (net : ParserNetwork) (d : ℕ) (A : ℕ → Type 0) (returns w : List ℕ) (i : ℕ) : Type 0 where
  pub allowed : A i
  pub fits : Fits net d i returns w
  pub least : (j : ℕ) → A j → Fits net d j returns w → i ≤ j

-- i is the only one of these alternatives that fits
pub record IsOnlyThatFits (net : ParserNetwork) (d : ℕ) (A : ℕ → Type 0) (returns w : List ℕ) (i : ℕ) : Type 0 where
  pub allowed : A i
  pub fits : Fits net d i returns w
  pub only : (j : ℕ) → A j → Fits net d j returns w → j ≡ i
