-- What runs pass: the sets of configurations that SLL comes to at their decisions, as rows, and the symbols that
-- it looks at from each.
use Rattle.std.specs.Prelude.{◌≡◌, ◌⊎◌, ◌<◌, ◌^◌, ℕ, List, [], ◌∷◌, Contains, drop}
use Rattle.g4_classes.specs.Classes.{AreAlike}
use Rattle.g4_guards.specs.Levels.{IsDecision}
use Rattle.g4_net.specs.Configurations.{Config}
use Rattle.g4_net.specs.Network.{ParserNetwork}
use Rattle.g4_net.specs.Prediction.{Led, Looked, Path, Sll, Verdict, ended, led_to}
use Rattle.g4_parse.specs.Teaching.{IsConditionAt}
use Rattle.g4_run.specs.Running.{AllowsAt, Reaches, Run, RunOver}

-- the row comes after the symbols that were looked at
abbrev pub IsLedTo : List Config → Led → Type 0
IsLedTo y (led_to row) = row ≡ y
IsLedTo y (ended v) = ⊥

-- one of the symbols that were looked at led to the row
abbrev pub ComesTo : List Config → List Looked → Type 0
ComesTo y [] = ⊥
ComesTo y (l ∷ ls) = IsLedTo y l.led ⊎ ComesTo y ls

-- what is looked at after a symbol: nothing after the last one
abbrev pub Onward : Led → (List Config → Type 0) → Type 0
Onward (led_to row) P = P row
Onward (ended v) P = ⊥

-- from the row x on, which is the one before these symbols or a later one, the symbol was looked at from the row y
abbrev pub LooksAt : List Config → ℕ → List Config → List Looked → Type 0
LooksAt y a x [] = ⊥
LooksAt y a x (l ∷ ls) = ((x ≡ y) × (l.symbol ≡ a)) ⊎ Onward l.led (λ row. LooksAt y a row ls)

-- The path is that of SLL at this moment of the run: at its decision, over the alternatives that the moment allows, on what is left of the
-- word. These have a guard, under a condition of 32 bits.
pub record IsPathAt (net : ParserNetwork) (over : RunOver) (r : Run) (path : Path) : Type 0 where
  pub decides : IsDecision net r.state
  pub guarded : (condition : ℕ) × (condition < 2 ^ 32) × IsConditionAt net over.values over.word r condition
  pub verdict : Verdict
  pub sll : Sll net r.state (AllowsAt net over.values over.word r) (drop r.place over.word) verdict path

-- the path is that of SLL at one of the moments that one of the runs comes to
pub record IsPassedPath (net : ParserNetwork) (runs : List RunOver) (path : Path) : Type 0 where
  pub over : RunOver
  pub among : Contains runs over
  pub moment : Run
  pub reached : Reaches net over.values over.word moment
  pub is : IsPathAt net over moment path

-- the runs pass the row: a set from which a symbol is to be looked at
abbrev pub IsPassedRow : ParserNetwork → List RunOver → List Config → Type 0
IsPassedRow net runs y = (path : Path) × IsPassedPath net runs path × ((path.start ≡ y) ⊎ ComesTo y path.looked)

-- the runs pass the edge: the row, and a symbol that is looked at from there
abbrev pub IsPassedEdge : ParserNetwork → List RunOver → List Config × ℕ → Type 0
IsPassedEdge net runs edge = (path : Path) × IsPassedPath net runs path × LooksAt edge.0 edge.1 path.start path.looked

-- the edges count as one: they are of one row, and no edge of the network distinguishes their symbols
abbrev pub AreOneEdge : ParserNetwork → List Config × ℕ → List Config × ℕ → Type 0
AreOneEdge net one other = (one.0 ≡ other.0) × AreAlike net one.1 other.1
