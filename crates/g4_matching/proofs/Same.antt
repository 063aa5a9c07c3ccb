-- When two entries are equal.
use Rattle.std.proofs.Common.{◌≡◌, ℕ, List, [], ◌∷◌, Bool, true, false, ◌&&◌, eqb, eq-eqb, refl, sym, ◌∙◌, ap}
use Rattle.std.proofs.lemmas.Bool.{eqb-true, false≢true}
use lib.Pointwise.{pointwise}
use mathlib.Core.Bool.{beq}
use Rattle.g4_matching.specs.declared.entry.Entry.{Entry}

-- the test of each field in turn
abbrev pub test : Entry → Entry → Bool
test a b = eqb a.state b.state && (eqb a.rule b.rule
    && (eqb a.alternative b.alternative && (eqb a.returns b.returns && beq a.passed b.passed)))

-- both hold
both : (p q : Bool) → (p && q) ≡ true → (p ≡ true) × (q ≡ true)
both true q e = (refl, e)
both false q e = absurd (false≢true e)

-- both together hold
and : (p q : Bool) → p ≡ true → q ≡ true → (p && q) ≡ true
and true q e f = f
and false q e f = e

-- equal truth values
same_bool : (p q : Bool) → beq p q ≡ true → p ≡ q
same_bool true true e = refl
same_bool true false e = absurd (false≢true e)
same_bool false true e = absurd (false≢true e)
same_bool false false e = refl

-- each is its own
bool_same : (p : Bool) → beq p p ≡ true
bool_same true = refl
bool_same false = refl

-- an entry of its parts
abbrev pub make : ℕ → ℕ → ℕ → ℕ → Bool → Entry
make state rule alternative returns passed =
    record { state = state; rule = rule; alternative = alternative; returns = returns; passed = passed }

-- the test holds of equal entries alone
pub tells : (a b : Entry) → test a b ≡ true → a ≡ b
tells a b e =
    let s = both _ _ e in
    let r = both _ _ s.1 in
    let l = both _ _ r.1 in
    let t = both _ _ l.1 in
    ap (λ (x : ℕ). make x a.rule a.alternative a.returns a.passed) (eqb-true _ _ s.0)
    ∙ ap (λ (x : ℕ). make b.state x a.alternative a.returns a.passed) (eqb-true _ _ r.0)
    ∙ ap (λ (x : ℕ). make b.state b.rule x a.returns a.passed) (eqb-true _ _ l.0)
    ∙ ap (λ (x : ℕ). make b.state b.rule b.alternative x a.passed) (eqb-true _ _ t.0)
    ∙ ap (λ (x : Bool). make b.state b.rule b.alternative b.returns x) (same_bool _ _ t.1)

-- and of all of them
holds : (a : Entry) → test a a ≡ true
holds a = and _ _ (eq-eqb a.state a.state refl)
    (and _ _ (eq-eqb a.rule a.rule refl) (and _ _ (eq-eqb a.alternative a.alternative refl)
    (and _ _ (eq-eqb a.returns a.returns refl) (bool_same a.passed))))

-- so where it fails they differ
pub differs : (a b : Entry) → test a b ≡ false → a ≡ b → ⊥
differs a b e same = false≢true (sym e ∙ ap (test a) (sym same) ∙ holds a)

-- lists of equal entries are equal
pub all_same : (xs ys : List Entry) → pointwise test xs ys ≡ true → xs ≡ ys
all_same [] [] e = refl
all_same [] (y ∷ ys) e = absurd (false≢true e)
all_same (x ∷ xs) [] e = absurd (false≢true e)
all_same (x ∷ xs) (y ∷ ys) e = let h = both (test x y) (pointwise test xs ys) e in
    ap (λ (z : Entry). z ∷ xs) (tells x y h.0) ∙ ap (λ (l : List Entry). y ∷ l) (all_same xs ys h.1)
