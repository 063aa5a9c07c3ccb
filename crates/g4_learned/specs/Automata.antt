-- The parser's automaton: its contents are rows of sets of configurations, and its ends are verdicts of SLL.
use Rattle.std.specs.Prelude.{◌≡◌, ◌<◌, ℕ, ◌+◌, ◌^◌, zero, suc, List, Some, Contains, slice_get}
use Rattle.g4_net.specs.Configurations.{Config, IsRow, wildcard}
use Rattle.g4_net.specs.Lookahead.{Next, Start, IsEmpty, IsOnly}
use Rattle.g4_net.specs.Prediction.{Verdict, answer, error_at, sensitive}
use Rattle.g4_lookahead.specs.EndOfList.{GoesOn, Matters}
use Rattle.g4_classes.specs.Classes.{IsSymbol}
use Rattle.g4_store.specs.declared.automaton.Led.{Led}
use Rattle.g4_store.specs.declared.automaton.Led.TheVariants.{Row, End}
use Rattle.g4_guards.specs.Levels.{AllowedAt}
use Rattle.g4_learned.specs.Tables.{Tables, column_of}

-- the code of a verdict, which is that of its end: where it comes is not in it
abbrev pub code_of : Verdict → ℕ
code_of (error_at k) = 0
code_of (sensitive k) = 1
code_of (answer i) = i + 2

-- what the end of a code says, to which the symbol at k leads
abbrev pub verdict_at : ℕ → ℕ → Verdict
verdict_at zero k = error_at k
verdict_at (suc zero) k = sensitive k
verdict_at (suc (suc i)) k = answer i

-- SLL ends at the set with the verdict of this code
abbrev pub EndsAs : (Config → Type 0) → ℕ → Type 0
EndsAs D zero = IsEmpty D
EndsAs D (suc zero) = (several : (i : ℕ) → IsOnly D i → ⊥) × Matters D
EndsAs D (suc (suc i)) = IsOnly D i

-- what a symbol leads to whose next set is D
abbrev pub IsLed : (Config → Type 0) → Led (List Config) → Type 0
IsLed D (Row row mark) = (mark ≡ 0) × GoesOn D × IsRow row D
IsLed D (End code) = (code < 2 ^ 32) × EndsAs D code

-- the start of this number has this row: that of a decision's start set, over the alternatives that may be taken at the start's guard
abbrev pub StartsAt : Tables → ℕ → List Config → Type 0
StartsAt t i row =
    (d guard : ℕ) × (slice_get t.starts i ≡ Some (d, guard)) × IsRow row (Start t.net d (AllowedAt t.net d guard) wildcard)

-- From the row each symbol of the column leads there, and it has one.
pub record LeadsTo (t : Tables) (row : List Config) (column : ℕ) (led : Led (List Config)) : Type 0 where
  pub some : (a : ℕ) × IsSymbol a × (column_of t a ≡ column)
  pub each : (a : ℕ) → IsSymbol a → column_of t a ≡ column → IsLed (Next t.net (Contains row) a) led
