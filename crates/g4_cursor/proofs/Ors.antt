-- One or another of some Booleans.
use Rattle.std.proofs.Common.{◌≡◌, ◌||◌, Bool, true, false, refl}

-- one or another or a third is so
pub either_of_three : (p q r : Bool) → (p || (q || r)) ≡ ((p || q) || r)
either_of_three true q r = refl
either_of_three false q r = refl

-- one or false
pub or_none : (p : Bool) → p ≡ (p || false)
or_none true = refl
or_none false = refl
