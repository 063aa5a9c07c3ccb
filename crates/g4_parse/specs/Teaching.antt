-- What a parse leaves its pass: the words of the paths of SLL that its run passes.
use Rattle.std.specs.Prelude.{◌≡◌, ◌⊎◌, ◌↔◌, ℕ, List, Result, Ok, Err, drop, true, false}
use Rattle.g4_decide.specs.Asked.{Told}
use Rattle.g4_guards.specs.Levels.{AllowedAt, IsCondition}
use Rattle.g4_learned.specs.Stored.{ArePassed}
use Rattle.g4_learned.specs.Tables.{Tables}
use Rattle.g4_net.specs.Configurations.{Config}
use Rattle.g4_net.specs.Network.{ParserNetwork}
use Rattle.g4_net.specs.Prediction.{Verdict}
use Rattle.g4_run.specs.Running.{AllowsAt, Reaches, Run, Values}
use Rattle.g4_store.specs.declared.automaton.Fact.{Fact}
use Rattle.g4_store.specs.declared.automaton.Plan.{Plan}
use Rattle.g4_store.specs.Known.{KnowsRows}
use Rattle.g4_store.specs.Numbers.{Among}
use Rattle.g4_store.specs.Paths.{InKnown, IsIn, Within}
use Rattle.g4_parse.specs.declared.parser.ParseFault.{ParseFault}
use Rattle.g4_parse.specs.declared.parser.ParseFault.TheVariants.{FailedPredicate, Mismatch, NoMemory, NoViable, TooDeep}

-- The number is a condition of the decision of this moment, under which the alternatives may be taken that the moment allows.
pub record IsConditionAt (net : ParserNetwork) (values : Values) (word : List ℕ) (r : Run) (condition : ℕ) : Type 0 where
  pub is : IsCondition net r.state condition
  pub allows : (i : ℕ) → AllowedAt net r.state condition i ↔ AllowsAt net values word r i

-- The word is one of SLL's path at this moment of a run: at its decision, over the alternatives that it allows, on what is left of the
-- tokens. Where these have no guard there is none.
pub record IsPassedAt (t : Tables) (values : Values) (word : List ℕ) (r : Run) (f : Fact (List Config)) : Type 0 where
  pub condition : ℕ
  pub under : IsConditionAt t.net values word r condition
  pub verdict : Verdict
  pub facts : List (Fact (List Config))
  pub passed : ArePassed t r.state condition (drop r.place word) verdict facts
  pub among : Among f facts

-- the run over the tokens passes the word, at one of the moments that it comes to
abbrev pub IsPassed : Tables → Values → List ℕ → Fact (List Config) → Type 0
IsPassed t values word f = (r : Run) × Reaches t.net values word r × IsPassedAt t values word r f

-- one of the words that are passed names the row
abbrev pub HasPassedRow : (Fact (List Config) → Type 0) → List Config → Type 0
HasPassedRow Passed y = (f : Fact (List Config)) × Passed f × IsIn y f

-- Nothing that the pass has seen, taught or knows is lost.
pub record HasKept (old new : Told) : Type 0 where
  pub seen : (f : Fact (List Config)) → Among f old.0.seen → Among f new.0.seen
  pub taught : (f : Fact (List Config)) → Among f old.0.taught → Among f new.0.taught
  pub known : (t : ℕ) (y : List Config) → Among (t, y) old.0.known → Among (t, y) new.0.known
  pub holds : new.0.holds ≡ old.0.holds
  pub count : new.0.count ≡ old.0.count

-- The pass has seen and taught no words but those that are passed. It has seen all of these, or there was want of room: then it has seen
-- those whose rows it knows, and it knows as many rows as there may be. There is new want of room only where a word that is passed has
-- another row. Where none is passed, the pass is as it was.
pub record IsTaught (p : Plan Tables) (Passed : Fact (List Config) → Type 0) (old new : Told) : Type 0 where
  pub within : (f : Fact (List Config)) → Among f new.0.seen → Among f old.0.seen ⊎ Passed f
  pub teaches : (f : Fact (List Config)) → Among f new.0.taught → Among f old.0.taught ⊎ Passed f
  pub whole : new.1 ≡ false → (f : Fact (List Config)) → Passed f → Among f new.0.seen
  pub some : (f : Fact (List Config)) → Passed f → Within (InKnown new.0.known) f → Among f new.0.seen
  pub missing : old.1 ≡ false → new.1 ≡ true → (y : List Config) × HasPassedRow Passed y × (InKnown new.0.known y → ⊥)
  pub stays_full : old.1 ≡ true → new.1 ≡ true
  pub rows : (((f : Fact (List Config)) → Passed f → ⊥) × (new ≡ old)) ⊎ KnowsRows p.rows new

-- the fault is not that memory was refused
abbrev pub IsNoRefusal : ParseFault → Type 0
IsNoRefusal (NoViable at) = Unit {0}
IsNoRefusal (Mismatch at state) = Unit {0}
IsNoRefusal (FailedPredicate at rule) = Unit {0}
IsNoRefusal (TooDeep at) = Unit {0}
IsNoRefusal NoMemory = ⊥

-- the call did not want for memory
abbrev pub HadMemory : {X : Type 0} → Result X ParseFault → Type 0
HadMemory (Ok x) = Unit {0}
HadMemory (Err fault) = IsNoRefusal fault
