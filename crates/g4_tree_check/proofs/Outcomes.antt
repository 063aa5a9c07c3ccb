-- Tests joined.
use Rattle.std.proofs.Common.{◌≡◌, ◌↔◌, ◌⊎◌, inl, inr, Bool, true, false, ◌||◌, ◌&&◌, IsTrue, refl, sym}

-- one or another or a third
pub or-assoc : (a b c : Bool) → ((a || b) || c) ≡ (a || (b || c))
or-assoc true b c = refl
or-assoc false b c = refl

-- one or never
pub or-false : (a : Bool) → (a || false) ≡ a
or-false true = refl
or-false false = refl

-- either of two tests holds
pub true_or : (a b : Bool) → IsTrue (a || b) ↔ (IsTrue a ⊎ IsTrue b)
true_or true b = (λ h. inl refl, λ h. refl)
true_or false b = (λ h. inr h, λ h. elim h [ inl p ↦ absurd (cc) | inr q ↦ q ])

-- both of two tests hold
pub true_and : (a b : Bool) → IsTrue (a && b) ↔ (IsTrue a × IsTrue b)
true_and true b = (λ h. (refl, h), λ h. h.1)
true_and false b = (λ h. absurd (cc), λ h. absurd (cc))

-- tests of the same fact
pub same_test : (X : Type 0) (a b : Bool) → (IsTrue a ↔ X) → (IsTrue b ↔ X) → a ≡ b
same_test X true true p q = refl
same_test X true false p q = sym (q.1 (p.0 refl))
same_test X false true p q = p.1 (q.0 refl)
same_test X false false p q = refl
