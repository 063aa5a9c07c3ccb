-- What a walk tells.
use Rattle.std.specs.Prelude.{◌≡◌, ◌⊎◌, ◌↔◌, ℕ, zero, suc, ◌+◌, ◌<◌, List, [], ◌∷◌, ◌++◌, length, take, slice_index}
use Rattle.g4_store.specs.declared.automaton.Led.{Led}
use Rattle.g4_store.specs.declared.automaton.Led.TheVariants.{Row, End as ends}
use Rattle.g4_store.specs.declared.automaton.Fact.{Fact}
use Rattle.g4_store.specs.declared.automaton.Fact.TheVariants.{Start, Cell}
use Rattle.g4_store.specs.declared.automaton.Plan.{Plan}
use Rattle.g4_store.specs.declared.view.View.{View}
use Rattle.g4_store.specs.declared.walk.Walk.{Walk}
use Rattle.g4_store.specs.declared.walk.Walk.TheVariants.{End, Open, NotLearned}
use Rattle.g4_store.specs.Numbers.{Among}
use Rattle.g4_store.specs.Words.{cell_at, start_at}
use Rattle.g4_store.specs.Views.{NoStart, NoCell}

module _ {N C : Type 0} (leads : N → C → ℕ → Led C → Type 0) where
  -- the columns lead from one content to another, and these are the cells on the way
  pub data Along (net : N) (x : C) : List ℕ → List (Fact C) → C → Type 0 where
    here : Along net x [] [] x
    onward : (ss : List ℕ) (fs : List (Fact C)) (y : C) (s : ℕ) (z : C) (mark : ℕ) → Along net x ss fs y → leads net y s (Row z mark)
        → Along net x (ss ++ s ∷ []) (fs ++ Cell y s (Row z mark) ∷ []) z

-- exactly these facts were seen beside what had been seen
abbrev pub SawAlso : {C : Type 0} → List (Fact C) → View C → View C → Type 0
SawAlso {C} fs old new = (f : Fact C) → Among f new.seen ↔ (Among f old.seen ⊎ Among f fs)

-- the last load was of this word, which held 0
abbrev pub FoundNothing : {C : Type 0} → ℕ → View C → Type 0
FoundNothing word v = (v.looks.word ≡ word) × (v.looks.found ≡ 0)

module _ {N C : Type 0} (starts : N → ℕ → C → Type 0) (leads : N → C → ℕ → Led C → Type 0) where
  -- the walk went along the first k columns to y
  pub record Came (p : Plan N) (i : ℕ) (columns : List ℕ) (k : ℕ) (old : View C) (y : C) (fs : List (Fact C)) : Type 0 where
    pub first : C
    pub starts_so : starts p.net i first
    pub on : List (Fact C)
    pub along : Along leads p.net first (take k columns) on y
    pub facts : fs ≡ Start i first ∷ on

  -- the words that were read, and what the walk answers. NotLearned comes only where the last word that was loaded, that of the
  -- start or of the cell of the row to which the walk came, held 0
  abbrev pub Walked : Plan N → ℕ → List ℕ → View C → View C → Walk → Type 0
  Walked p i columns old new (End code k) =
      (y : C) × (fs : List (Fact C)) × (k < length columns) × Came p i columns k old y fs
      × leads p.net y (slice_index columns k) (ends code) × SawAlso (fs ++ Cell y (slice_index columns k) (ends code) ∷ []) old new
  Walked p i columns old new Open = (y : C) × (fs : List (Fact C)) × Came p i columns (length columns) old y fs × SawAlso fs old new
  Walked p i columns old new (NotLearned zero) = NoStart i old.seen × SawAlso [] old new × FoundNothing (start_at p i) new
  Walked p i columns old new (NotLearned (suc k)) =
      (y : C) × (fs : List (Fact C)) × (k < length columns) × Came p i columns k old y fs
      × NoCell y (slice_index columns k) new.seen × SawAlso fs old new
      × ((row : ℕ) × Among (row, y) new.known × FoundNothing (cell_at p row (slice_index columns k)) new)

-- what a walk leaves as it is: what the pass has taught and holds, and the rows that it knows
pub record Keeps {C : Type 0} (old new : View C) : Type 0 where
  pub taught : new.taught ≡ old.taught
  pub holds : new.holds ≡ old.holds
  pub count : new.count ≡ old.count
  pub known : (t : ℕ) (y : C) → Among (t, y) old.known → Among (t, y) new.known

-- how many words a walk loads
abbrev pub Ticks : ℕ → ℕ → ℕ → Walk → Type 0
Ticks n old new (End code k) = new ≡ old + (2 + k)
Ticks n old new Open = new ≡ old + (1 + n)
Ticks n old new (NotLearned k) = new ≡ old + (1 + k)

module _ {N C : Type 0} (starts : N → ℕ → C → Type 0) (leads : N → C → ℕ → Led C → Type 0) where
  -- the columns lead from the start to an end at column k, and the pass has seen each word of that path
  pub record SeenTo (p : Plan N) (i : ℕ) (columns : List ℕ) (k code : ℕ) (old : View C) : Type 0 where
    pub y : C
    pub facts : List (Fact C)
    pub within : k < length columns
    pub came : Came starts leads p i columns k old y facts
    pub leads_so : leads p.net y (slice_index columns k) (ends code)
    pub seen : (f : Fact C) → Among f (facts ++ Cell y (slice_index columns k) (ends code) ∷ []) → Among f old.seen
