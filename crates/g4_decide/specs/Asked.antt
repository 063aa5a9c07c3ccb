-- What a pass has seen once SLL was asked at a decision.
use Rattle.std.specs.Prelude.{◌≡◌, ◌⊎◌, ◌<◌, ◌^◌, ℕ, List, Bool, true, false, Contains}
use Rattle.g4_net.specs.Configurations.{Config}
use Rattle.g4_net.specs.Network.{ParserNetwork}
use Rattle.g4_net.specs.Prediction.{Looked, SllFrom, Verdict, answer, error_at, sensitive}
use Rattle.g4_learned.specs.Automata.{code_of}
use Rattle.g4_store.specs.declared.automaton.Fact.{Fact}
use Rattle.g4_store.specs.declared.automaton.Plan.{Plan}
use Rattle.g4_store.specs.declared.view.View.{View}
use Rattle.g4_store.specs.Known.{KnowsRows}
use Rattle.g4_store.specs.Numbers.{Among}
use Rattle.g4_store.specs.Paths.{HasRow, InKnown, Within}
use Rattle.g4_learned.specs.Stored.{ArePassed}
use Rattle.g4_learned.specs.Tables.{Tables}

-- the view of a pass, and whether it has met with a want of room
abbrev pub Told : Type 0
Told = View (List Config) × Bool

-- Nothing is lost, and no words are seen or taught but those of SLL's path at the decision.
pub record KeepsToPath (p : Plan Tables) (d condition : ℕ) (word : List ℕ) (old new : Told) : Type 0 where
  pub seen : (f : Fact (List Config)) → Among f old.0.seen → Among f new.0.seen
  pub within : (v : Verdict) (facts : List (Fact (List Config))) → ArePassed p.net d condition word v facts
      → (f : Fact (List Config)) → Among f new.0.seen → Among f old.0.seen ⊎ Among f facts
  pub taught : (f : Fact (List Config)) → Among f old.0.taught → Among f new.0.taught
  pub teaches : (v : Verdict) (facts : List (Fact (List Config))) → ArePassed p.net d condition word v facts
      → (f : Fact (List Config)) → Among f new.0.taught → Among f old.0.taught ⊎ Among f facts
  pub known : (t : ℕ) (y : List Config) → Among (t, y) old.0.known → Among (t, y) new.0.known
  pub holds : new.0.holds ≡ old.0.holds
  pub count : new.0.count ≡ old.0.count

-- Once SLL was asked, the words of its path are seen: all of them, or, where there was want of room, those whose rows are known. Then as
-- many rows are known as there may be; and where the want of room is new, the path has another.
pub record Asked (p : Plan Tables) (d condition : ℕ) (word : List ℕ) (v : Verdict) (old new : Told) : Type 0 where
  pub facts : List (Fact (List Config))
  pub passed : ArePassed p.net d condition word v facts
  pub some : (f : Fact (List Config)) → Among f facts → Within (InKnown new.0.known) f → Among f new.0.seen
  pub whole : new.1 ≡ false → (f : Fact (List Config)) → Among f facts → Among f new.0.seen
  pub missing : old.1 ≡ false → new.1 ≡ true → (y : List Config) × HasRow facts y × (InKnown new.0.known y → ⊥)
  pub stays_full : old.1 ≡ true → new.1 ≡ true
  pub rows : KnowsRows p.rows new

-- the verdict settles the decision: the parser's stack does not matter
abbrev pub NeedsNoStack : Verdict → Type 0
NeedsNoStack (answer i) = Unit {0}
NeedsNoStack (error_at k) = Unit {0}
NeedsNoStack (sensitive k) = ⊥

-- the pass has seen each word of SLL's path, which has this verdict and these words
abbrev pub HasSeen : Plan Tables → ℕ → ℕ → List ℕ → Told → Verdict → List (Fact (List Config)) → Type 0
HasSeen p d condition word old v facts =
    ArePassed p.net d condition word v facts × ((f : Fact (List Config)) → Among f facts → Among f old.0.seen)

-- what SLL says of the word from the row on, after so many symbols, has a code
abbrev pub HaveCodes : ParserNetwork → List Config → List ℕ → ℕ → Type 0
HaveCodes net row word k = (v : Verdict) (looked : List Looked) → SllFrom net (Contains row) word k v looked → code_of v < 2 ^ 32
