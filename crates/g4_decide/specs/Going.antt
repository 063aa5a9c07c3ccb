-- Where asking has come to on the way of SLL's path, and what a step from there does.
use Rattle.std.specs.Prelude.{◌≡◌, ◌⊎◌, ◌≤◌, ◌<◌, ◌+◌, ℕ, List, Option, Some, None, All, Contains, true, drop, length, get_or}
use Rattle.g4_classes.specs.Classes.{IsSymbol}
use Rattle.g4_configs.specs.Configs.{Holds}
use Rattle.g4_configs.specs.Configs as sets
use Rattle.g4_decide.specs.Asked.{Asked, KeepsToPath, Told}
use Rattle.g4_decide.specs.declared.stepping.Here.{Here}
use Rattle.g4_decide.specs.declared.stepping.Step.{Step}
use Rattle.g4_decide.specs.declared.stepping.Step.TheVariants.{Ended, NoRoom, Onward}
use Rattle.g4_learned.specs.Automata.{LeadsTo, StartsAt}
use Rattle.g4_learned.specs.Stored.{ArePassed, IsPlan, columns_of}
use Rattle.g4_learned.specs.Tables.{IsStartOf, Tables}
use Rattle.g4_net.specs.Configurations.{Config, IsRow}
use Rattle.g4_net.specs.Prediction as said
use Rattle.g4_predict.specs.Paths.{verdict_of}
use Rattle.g4_store.specs.declared.automaton.Fact.{Fact}
use Rattle.g4_store.specs.declared.automaton.Plan.{Plan}
use Rattle.g4_store.specs.declared.view.View.{View}
use Rattle.g4_store.specs.Known.{KnowsRows}
use Rattle.g4_store.specs.Numbers.{Among}
use Rattle.g4_store.specs.Paths.{HasRow, InKnown}
use Rattle.g4_store.specs.Walks.{Came}
use Rattle.g4_tokens.specs.Symbols.{end_of_list}

-- what SLL is asked: a decision under a condition, on this word
pub record Question : Type 0 where
  pub decision : ℕ
  pub condition : ℕ
  pub word : List ℕ

-- these are the words of the path that SLL has, with this verdict
abbrev pub IsPath : Plan Tables → Question → said.Verdict → List (Fact (List Config)) → Type 0
IsPath p q v facts = ArePassed p.net q.decision q.condition q.word v facts

-- no words are seen or taught but those of SLL's path
abbrev pub Keeps : Plan Tables → Question → Told → Told → Type 0
Keeps p q old new = KeepsToPath p q.decision q.condition q.word old new

-- Along the first k symbols SLL comes to the row of this number, and the pass has seen the words of this way.
pub record CameTo (p : Plan Tables) (q : Question) (k row : ℕ) (now : Told) : Type 0 where
  pub plan : IsPlan p
  pub symbols : All IsSymbol q.word
  pub ends : Contains q.word end_of_list
  pub ahead : (j : ℕ) → j < length q.word → Contains (drop j q.word) end_of_list
  pub number : row < p.rows
  pub start : ℕ
  pub is_start : IsStartOf p.net q.decision q.condition start
  pub view : View (List Config)
  pub content : List Config
  pub before : List (Fact (List Config))
  pub within : k ≤ length q.word
  pub came : Came StartsAt LeadsTo p start (columns_of p.net q.word) k view content before
  pub known : Among (row, content) now.0.known
  pub seen : (f : Fact (List Config)) → Among f before → Among f now.0.seen

-- the set at hand, if there is one, has this row
abbrev pub HasSet : Option sets.View → List Config → Type 0
HasSet None y = Unit {0}
HasSet (Some set) y = IsRow y (Holds set)

abbrev pub IsHere : Plan Tables → Question → ℕ → Here → Told → Type 0
IsHere p q k here now = (came : CameTo p q k here.row now) × HasSet here.set came.content

-- the symbol at k
abbrev pub IsNext : Question → ℕ → ℕ → Type 0
IsNext q k a = (k < length q.word) × (get_or q.word k 0 ≡ a)

-- The pass has met with a want of room, and a row of SLL's path is none of those that there are.
pub record LacksRow (p : Plan Tables) (q : Question) (now : Told) : Type 0 where
  pub full : now.1 ≡ true
  pub row : List Config
  pub of_path : (v : said.Verdict) (facts : List (Fact (List Config))) → IsPath p q v facts → HasRow facts row
  pub missing : InKnown now.0.known row → ⊥

-- what came of a step on symbol k; where the rest is to be looked at at once, the want of room is one of this step, or there was one before
abbrev pub IsStep : Plan Tables → Question → ℕ → Told → Told → Step → Type 0
IsStep p q k old new (Ended v) = Asked p q.decision q.condition q.word (verdict_of v) old new
IsStep p q k old new (Onward here) = IsHere p q (k + 1) here new × (new.1 ≡ old.1)
IsStep p q k old new (NoRoom row) = CameTo p q k row new × (LacksRow p q new ⊎ (new.1 ≡ old.1)) × KnowsRows p.rows new
