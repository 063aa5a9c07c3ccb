-- What a walk answers.
use Rattle.std.specs.Prelude.{◌≡◌, ◌⊎◌, ◌<◌, ℕ, zero, suc, ◌+◌, List, [], ◌∷◌, Option, Some, None, length}
use Rattle.g4_net.specs.Configurations.{Config}
use Rattle.g4_net.specs.Prediction as said
use Rattle.g4_predict.specs.Paths.{verdict_of}
use Rattle.g4_store.specs.declared.automaton.Fact.{Fact}
use Rattle.g4_store.specs.declared.automaton.Fact.TheVariants.{Cell, Start}
use Rattle.g4_store.specs.declared.automaton.Led.TheVariants as to
use Rattle.g4_store.specs.declared.automaton.Plan.{Plan}
use Rattle.g4_store.specs.declared.view.View.{View}
use Rattle.g4_store.specs.declared.walk.Walk as way
use Rattle.g4_store.specs.declared.walk.Walk.TheVariants as along
use Rattle.g4_store.specs.Numbers.{Among}
use Rattle.g4_store.specs.Views.{NoCell}
use Rattle.g4_store.specs.Views.{NoStart as NoStartSeen}
use Rattle.g4_store.specs.Walks.{Came, SawAlso, Walked}
use Rattle.g4_learned.specs.Automata.{LeadsTo, StartsAt, verdict_at}
use Rattle.g4_learned.specs.Stored.{ArePassed, columns_of}
use Rattle.g4_learned.specs.Tables.{IsStartOf, Tables, column_of}
use Rattle.g4_learned.specs.declared.target.Target.{Target}
use Rattle.g4_learned.specs.declared.target.Target.TheVariants.{NotLearned, Row}
use Rattle.g4_learned.specs.declared.target.Target.TheVariants as stopped
use Rattle.g4_learned.specs.declared.walk.Walk.{Walk}
use Rattle.g4_learned.specs.declared.walk.Walk.TheVariants.{Ended, NoEdge, NoStart}

-- the store's walk from a start along the columns of a word
abbrev pub WalkedAlong : Plan Tables → ℕ → List ℕ → View (List Config) → View (List Config) → way.Walk → Type 0
WalkedAlong p i word old new walk = Walked StartsAt LeadsTo p i (columns_of p.net word) old new walk

-- the row to which a walk came whose word for the next column held 0: the walk came along the columns before to its content
abbrev pub StopsAt : Plan Tables → ℕ → List ℕ → View (List Config) → View (List Config) → ℕ → way.Walk → Type 0
StopsAt p i word old new row (along.End code k) = Unit {0}
StopsAt p i word old new row along.Open = Unit {0}
StopsAt p i word old new row (along.NotLearned zero) = Unit {0}
StopsAt p i word old new row (along.NotLearned (suc k)) =
    (y : List Config) × (fs : List (Fact (List Config))) × (k < length word)
    × Came StartsAt LeadsTo p i (columns_of p.net word) k old y fs × Among (row, y) new.known × SawAlso fs old new

-- the same of a walk that ended at a verdict or at a word that held 0
abbrev pub WalkedTo : Plan Tables → ℕ → List ℕ → View (List Config) → View (List Config) → Walk → Type 0
WalkedTo p i word old new (Ended v k) =
    (code : ℕ) × (verdict_of v ≡ verdict_at code k) × WalkedAlong p i word old new (along.End code k)
WalkedTo p i word old new NoStart = WalkedAlong p i word old new (along.NotLearned 0)
WalkedTo p i word old new (NoEdge row at) =
    WalkedAlong p i word old new (along.NotLearned (suc at)) × StopsAt p i word old new row (along.NotLearned (suc at))

-- a verdict is that of SLL at the decision, over the alternatives that may be taken under the condition: the words of its path, one for the
-- start and one for each symbol that it looks at, are seen then, and no others are that had not been seen
abbrev pub IsVerdict : Plan Tables → ℕ → ℕ → List ℕ → View (List Config) → View (List Config) → Walk → Type 0
IsVerdict p d condition word old new (Ended v k) = (facts : List (Fact (List Config)))
    × ArePassed p.net d condition word (verdict_of v) facts
    × SawAlso facts old new × (length facts ≡ k + 2)
IsVerdict p d condition word old new NoStart = Unit {0}
IsVerdict p d condition word old new (NoEdge row at) = Unit {0}

-- the walk ended with this verdict, after so many words
abbrev pub CameTo : said.Verdict → ℕ → Walk → Type 0
CameTo v n (Ended u k) = (verdict_of u ≡ v) × (n ≡ k + 2)
CameTo v n NoStart = ⊥
CameTo v n (NoEdge row at) = ⊥

-- A walk from the start of a decision under a condition. It sees no words but those of SLL's path, and where the pass had seen each of
-- them, it comes to SLL's verdict.
pub record Walks (p : Plan Tables) (d condition : ℕ) (word : List ℕ) (old new : View (List Config)) (walk : Walk) : Type 0 where
  pub start : ℕ
  pub is_start : IsStartOf p.net d condition start
  pub walked : WalkedTo p start word old new walk
  pub verdict : IsVerdict p d condition word old new walk
  pub kept : (f : Fact (List Config)) → Among f old.seen → Among f new.seen
  pub within : (v : said.Verdict) (facts : List (Fact (List Config))) → ArePassed p.net d condition word v facts
      → (f : Fact (List Config)) → Among f new.seen → Among f old.seen ⊎ Among f facts
  pub learned : (v : said.Verdict) (facts : List (Fact (List Config))) → ArePassed p.net d condition word v facts
      → ((f : Fact (List Config)) → Among f facts → Among f old.seen) → CameTo v (length facts) walk

-- how many words are loaded
abbrev pub Loads : ℕ → ℕ → Walk → Type 0
Loads old new (Ended v k) = new ≡ old + (2 + k)
Loads old new NoStart = new ≡ old + 1
Loads old new (NoEdge row at) = new ≡ old + (2 + at)

-- What is learned of the decision's start set under a condition: nothing, or a row that the pass then knows. The word that was read is
-- seen, and no other that had not been seen.
abbrev pub Begins : Tables → ℕ → ℕ → View (List Config) → View (List Config) → Option ℕ → Type 0
Begins t d condition old new None =
    ((i : ℕ) → IsStartOf t d condition i → NoStartSeen i old.seen) × SawAlso [] old new
Begins t d condition old new (Some row) =
    (i : ℕ) × IsStartOf t d condition i × ((y : List Config) × StartsAt t i y × Among (row, y) new.known
    × SawAlso (Start i y ∷ []) old new)

-- What is learned of a row and the symbol at place k: nothing, a row that the pass then knows, or SLL's verdict. The word that was read is
-- seen, and no other that had not been seen.
abbrev pub Finds : Tables → List Config → ℕ → ℕ → View (List Config) → View (List Config) → Target → Type 0
Finds t y a k old new NotLearned = NoCell y (column_of t a) old.seen × SawAlso [] old new
Finds t y a k old new (Row row) =
    (z : List Config) × (mark : ℕ) × LeadsTo t y (column_of t a) (to.Row z mark) × Among (row, z) new.known
    × SawAlso (Cell y (column_of t a) (to.Row z mark) ∷ []) old new
Finds t y a k old new (stopped.Ended v) =
    (code : ℕ) × (verdict_of v ≡ verdict_at code k) × LeadsTo t y (column_of t a) (to.End code)
    × SawAlso (Cell y (column_of t a) (to.End code) ∷ []) old new
