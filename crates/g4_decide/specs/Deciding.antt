-- What deciding answers.
use Rattle.std.specs.Prelude.{◌≡◌, ℕ, ◌+◌, List, Result, Ok, Err}
use Rattle.g4_guards.specs.Choosing.{Chooses}
use Rattle.g4_guards.specs.Levels.{AllowedAt}
use Rattle.g4_net.specs.Allowed.{Allows}
use Rattle.g4_net.specs.declared.allowed.Allowed.{Allowed}
use Rattle.g4_net.specs.Configurations.{above_bottom}
use Rattle.g4_net.specs.Network.{ParserNetwork, IsFirst}
use Rattle.g4_net.specs.Prediction.{Choice, Path, Sll, chosen, no_viable, sensitive}
use Rattle.g4_decide.specs.declared.within.Decided.{Decided}
use Rattle.g4_decide.specs.declared.within.Decided.TheVariants.{Chosen, Far}
use Rattle.g4_decide.specs.declared.fault.DecideFault.{DecideFault}
use Rattle.g4_decide.specs.declared.fault.DecideFault.TheVariants.{NoViable, NoMemory}

-- why there is no alternative among these, the word beginning at this place of the token list
abbrev pub IsFaultOver : ParserNetwork → ℕ → (ℕ → Type 0) → List ℕ → List ℕ → ℕ → DecideFault → Type 0
IsFaultOver net d A returns w from (NoViable at) = (k : ℕ) × Chooses net d A (above_bottom returns) w (no_viable k) × (at ≡ from + k)
IsFaultOver net d A returns w from NoMemory = Unit {0}

-- the call answers with the choice over these alternatives, which is one of the decision's, or none, unless memory runs out
abbrev pub IsChosenOver : ParserNetwork → ℕ → (ℕ → Type 0) → List ℕ → List ℕ → ℕ → Result ℕ DecideFault → Type 0
IsChosenOver net d A returns w from (Ok i) = Chooses net d A (above_bottom returns) w (chosen i) × ((t : ℕ) × IsFirst net d i t)
IsChosenOver net d A returns w from (Err fault) = IsFaultOver net d A returns w from fault

-- the alternatives of the decision that are allowed
abbrev pub AllowedFirsts : ParserNetwork → ℕ → Allowed → ℕ → Type 0
AllowedFirsts net d allowed i = Allows allowed i × ((t : ℕ) × IsFirst net d i t)

-- the choice of a decision over the alternatives that may be taken under the condition
abbrev pub ChoosesAt : ParserNetwork → ℕ → ℕ → List ℕ → List ℕ → Choice → Type 0
ChoosesAt net d condition returns w c = Chooses net d (AllowedAt net d condition) (above_bottom returns) w c

-- why there is no alternative under the condition, the word beginning at this place of the token list
abbrev pub IsFault : ParserNetwork → ℕ → ℕ → List ℕ → List ℕ → ℕ → DecideFault → Type 0
IsFault net d condition returns w from fault = IsFaultOver net d (AllowedAt net d condition) returns w from fault

-- the same over the alternatives that may be taken under the condition
abbrev pub IsChosen : ParserNetwork → ℕ → ℕ → List ℕ → List ℕ → ℕ → Result ℕ DecideFault → Type 0
IsChosen net d condition returns w from result = IsChosenOver net d (AllowedAt net d condition) returns w from result

-- SLL says that the stack matters at the decision under the condition
abbrev pub IsSensitive : ParserNetwork → ℕ → ℕ → List ℕ → Type 0
IsSensitive net d condition w = (k : ℕ) × (path : Path) × Sll net d (AllowedAt net d condition) w (sensitive k) path

-- the same, or that the stack matters
abbrev pub IsDecided : ParserNetwork → ℕ → ℕ → List ℕ → List ℕ → ℕ → Result Decided DecideFault → Type 0
IsDecided net d condition returns w from (Ok (Chosen i)) = IsChosen net d condition returns w from (Ok i)
IsDecided net d condition returns w from (Ok Far) = IsSensitive net d condition w
IsDecided net d condition returns w from (Err fault) = IsFault net d condition returns w from fault

-- so many symbols settle nothing
abbrev pub IsFar : Result Decided DecideFault → Type 0
IsFar (Ok (Chosen i)) = ⊥
IsFar (Ok Far) = Unit {0}
IsFar (Err fault) = ⊥

-- the call did not want for memory
abbrev pub HadMemory : {X : Type 0} → Result X DecideFault → Type 0
HadMemory (Ok i) = Unit {0}
HadMemory (Err (NoViable at)) = Unit {0}
HadMemory (Err NoMemory) = ⊥
