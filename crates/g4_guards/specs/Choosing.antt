-- What prediction chooses among the alternatives that are allowed.
use Rattle.std.specs.Prelude.{◌↔◌, ℕ, List}
use Rattle.g4_net.specs.Configurations.{Stack}
use Rattle.g4_net.specs.Network.{ParserNetwork, IsFirst}
use Rattle.g4_net.specs.Prediction.{Choice, Full, Path, Sll, answer, chosen, error_at, no_viable, sensitive}
use Rattle.g4_guards.specs.Levels.{AllowedAt, IsCondition}

-- there is a guard for these alternatives: under some condition of the decision exactly they may be taken
abbrev pub IsGuarded : ParserNetwork → ℕ → (ℕ → Type 0) → Type 0
IsGuarded net d A = (n : ℕ) × IsCondition net d n × ((i : ℕ) → A i ↔ AllowedAt net d n i)

-- The choice of a decision, over the allowed alternatives and with the parser's stack, on the word that remains. Where these
-- alternatives have a guard it goes by SLL over them, and by full stacks over them from its start where SLL says that the stack
-- matters; else it goes by full stacks at once.
pub data Chooses (net : ParserNetwork) (d : ℕ) (A : ℕ → Type 0) (z : Stack) (w : List ℕ) : Choice → Type 0 where
  by_answer : (i : ℕ) (path : Path) → IsGuarded net d A → Sll net d A w (answer i) path → Chooses net d A z w (chosen i)
  by_error : (k : ℕ) (path : Path) → IsGuarded net d A → Sll net d A w (error_at k) path → Chooses net d A z w (no_viable k)
  by_full : (k : ℕ) (path : Path) (c : Choice) → IsGuarded net d A → Sll net d A w (sensitive k) path → Full net d A z w c
      → Chooses net d A z w c
  unguarded : (c : Choice) → (IsGuarded net d A → ⊥) → Full net d A z w c → Chooses net d A z w c

-- alternative i of the decision, which begins at t, is allowed
abbrev pub BeginsAllowed : ParserNetwork → ℕ → (ℕ → Type 0) → ℕ → ℕ → Type 0
BeginsAllowed net d A i t = A i × IsFirst net d i t

-- the allowed alternatives of the one decision begin where those of the other do
abbrev pub AllowAlike : ParserNetwork → ℕ → (ℕ → Type 0) → ℕ → (ℕ → Type 0) → Type 0
AllowAlike net d A e B = (i t : ℕ) → BeginsAllowed net d A i t ↔ BeginsAllowed net e B i t
