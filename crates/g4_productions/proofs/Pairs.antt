-- Pairs of the same parts.
use Rattle.std.proofs.Common.{◌≡◌, refl}

pub pair : {A B : Type 0} {a b : A} {x y : B} → a ≡ b → x ≡ y → ◌≡◌ {A = A × B} (a, x) (b, y)
pair e f = rw (e, f) refl
