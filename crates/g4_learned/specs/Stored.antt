-- Plans of the parser's store, and paths of SLL as they are learned.
use Rattle.std.specs.Prelude.{◌≡◌, ◌≤◌, ◌<◌, ◌⊎◌, ℕ, ◌*◌, ◌^◌, List, [], ◌∷◌, All, Contains, length, map}
use Rattle.g4_classes.specs.Classes.{IsSymbol}
use Rattle.g4_net.specs.AddedRule.{IsReady}
use Rattle.g4_net.specs.Configurations.{Config, IsRow}
use Rattle.g4_net.specs.Loops.{HasLoops}
use Rattle.g4_net.specs.Network.{ParserNetwork}
use Rattle.g4_net.specs.Prediction as prediction
use Rattle.g4_store.specs.declared.automaton.Fact.{Fact}
use Rattle.g4_store.specs.declared.automaton.Fact.TheVariants.{Start}
use Rattle.g4_store.specs.declared.automaton.Led.{Led}
use Rattle.g4_store.specs.declared.automaton.Led.TheVariants.{Row, End}
use Rattle.g4_store.specs.declared.automaton.Plan.{Plan}
use Rattle.g4_store.specs.declared.path.Looked.{Looked}
use Rattle.g4_store.specs.declared.path.Path.{Path}
use Rattle.g4_store.specs.Paths.{cells_of}
use Rattle.g4_store.specs.Words.{size_of}
use Rattle.g4_learned.specs.declared.store.TheConstants.{MOST_CELLS}
use Rattle.g4_learned.specs.Automata.{code_of}
use Rattle.g4_guards.specs.Levels.{AllowedAt}
use Rattle.g4_learned.specs.Tables.{AreTables, IsStartOf, Tables, column_of}

-- The network can be parsed with, and its levels are in loops. The columns and the starts are those of its tables, there are no more cells
-- and starts than a store may have, and the words have numbers of 32 bits.
pub record IsPlan (p : Plan Tables) : Type 0 where
  pub tables : AreTables p.net
  pub ready : IsReady p.net.net
  pub loops : HasLoops p.net.net
  pub columns : p.columns ≡ p.net.count
  pub starts : p.starts ≡ length p.net.starts
  pub cells : p.rows * p.columns ≤ MOST_CELLS
  pub few : p.starts ≤ MOST_CELLS
  pub fits : size_of p < 2 ^ 32

-- With so many rows a store over the network has more cells than a store may have, or more starts.
pub record IsTooLarge (net : ParserNetwork) (rows : ℕ) : Type 0 where
  pub tables : Tables
  pub are : AreTables tables
  pub of : tables.net ≡ net
  pub many : (MOST_CELLS < rows * tables.count) ⊎ (MOST_CELLS < length tables.starts)

-- the plan of no network
abbrev pub no_plan : Plan Tables
no_plan = record {
  rows = 0;
  columns = 0;
  starts = 0;
  net = record { net = record { states = []; callers = []; written = [] }; columns = []; count = 0; starts = [] };
}

-- the columns of the symbols of a word
abbrev pub columns_of : Tables → List ℕ → List ℕ
columns_of t word = map (column_of t) word

-- what a symbol led to, as it is stored
abbrev pub stored_led : prediction.Led → Led (List Config)
stored_led (prediction.led_to row) = Row row 0
stored_led (prediction.ended v) = End (code_of v)

-- a symbol that was looked at, as it is stored
abbrev pub stored_entry : Tables → prediction.Looked → Looked (List Config)
stored_entry t entry = record { column = column_of t entry.symbol; led = stored_led entry.led }

-- The path of a decision under a condition, as it is stored.
pub record IsStored (t : Tables) (d condition : ℕ) (path : prediction.Path) (stored : Path (List Config)) : Type 0 where
  pub start : IsStartOf t d condition stored.start
  pub content : stored.content ≡ path.start
  pub looked : stored.looked.items ≡ map (stored_entry t) path.looked

-- What SLL looks at from the set of a row on, to its end: it looks at symbols, and its verdict has a code.
pub record SaysFrom (net : ParserNetwork) (row : List Config) (looked : List prediction.Looked) : Type 0 where
  pub is_row : IsRow row (Contains row)
  pub word : List ℕ
  pub place : ℕ
  pub verdict : prediction.Verdict
  pub symbols : All IsSymbol word
  pub code : code_of verdict < 2 ^ 32
  pub says : prediction.SllFrom net (Contains row) word place verdict looked

-- the start and the cells of a path, from the start of this number
abbrev pub facts_from : Tables → ℕ → prediction.Path → List (Fact (List Config))
facts_from t start path = Start start path.start ∷ cells_of path.start (map (stored_entry t) path.looked)

-- The facts are the start and the cells of the path that SLL has at a decision, over the alternatives that may be taken under the
-- condition.
pub record ArePassed (t : Tables) (d condition : ℕ) (word : List ℕ) (v : prediction.Verdict) (facts : List (Fact
    (List Config))) : Type 0 where
  pub path : prediction.Path
  pub sll : prediction.Sll t.net d (AllowedAt t.net d condition) word v path
  pub start : ℕ
  pub is_start : IsStartOf t d condition start
  pub are : facts ≡ facts_from t start path
