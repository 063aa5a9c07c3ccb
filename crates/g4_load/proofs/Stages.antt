-- What two stages give, and a stage over a file, each stage gives.
use Rattle.std.proofs.Common.{◌≡◌, ℕ, List, Result, Ok, refl, subst}
use Rattle.g4_load.specs.Stages.{Then, stops, goes_on, OfFile, passes, fails}
use Rattle.g4_load.specs.declared.fault.GrammarFault.{GrammarFault}
use Rattle.g4_load.specs.declared.stop.Stop.{Stop}

-- where two stages give something, both do
pub both_give : {X Y F : Type 0} (First : Result X F → Type 0) (Second : X → Result Y F → Type 0) (y : Y) → Then First Second (Ok y)
    → (x : X) × First (Ok x) × Second x (Ok y)
both_give {X} {Y} {F} First Second y h = by (Ok y) h refl
  where
    by : (r : Result Y F) → Then First Second r → r ≡ Ok y → (x : X) × First (Ok x) × Second x (Ok y)
    by r (stops fault is) same = absurd (let no_way : ⊥ = cc in no_way)
    by r (goes_on x s is more) same = (x, is, subst (λ (t : Result Y F). Second x t) same more)

-- and what a stage over a file gives, the stage gives
pub file_gives : {X : Type 0} (name : List ℕ) (Stage : Result X GrammarFault → Type 0) (x : X) → OfFile name Stage (Ok x) → Stage (Ok x)
file_gives {X} name Stage x h = by (Ok x) h refl
  where
    by : (r : Result X Stop) → OfFile name Stage r → r ≡ Ok x → Stage (Ok x)
    by r (passes y is) same = let values : y ≡ x = cc in subst (λ (z : X). Stage (Ok z)) values is
    by r (fails fault is) same = absurd (let no_way : ⊥ = cc in no_way)
