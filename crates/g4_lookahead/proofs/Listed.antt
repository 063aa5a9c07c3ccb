-- Sets of configurations that a list has, and tests of them.
use Rattle.std.proofs.Common.{◌≡◌, ◌⊎◌, inl, inr, ℕ, List, [], ◌∷◌, ◌++◌, Bool, true, false, true≢false, Contains, refl, sym, ◌∙◌, ap, subst}
use Rattle.std.proofs.Math.Decide.{ℕ_discrete}
use Rattle.g4_net.specs.Configurations.{Stack, Config, config, IsRow}
use Rattle.g4_net.proofs.Pigeons.{In, In-from, In-to}

-- A finite set is one that a list has the members of, and no others.
pub record IsFinite (C : Config → Type 0) : Type 0 where
  pub members : List Config
  pub sound : (c : Config) → In c members → C c
  pub complete : (c : Config) → C c → In c members

-- a set that has a row is finite
pub finite_row : (C : Config → Type 0) (row : List Config) → IsRow row C → IsFinite C
finite_row C row is = record {
  members = row;
  sound = λ c i. (is.exactly c).0 (In-to row c i);
  complete = λ c h. let i = (is.exactly c).1 h in In-from row c i.0 i.1 i.2;
}

-- a set with the same members as a finite one is finite
pub finite_same : (C D : Config → Type 0) → ((c : Config) → C c → D c) → ((c : Config) → D c → C c) → IsFinite C → IsFinite D
finite_same C D to from f = record {
  members = f.members;
  sound = λ c i. to c (f.sound c i);
  complete = λ c h. f.complete c (from c h);
}

-- a set without members is finite
pub finite_none : (C : Config → Type 0) → ((c : Config) → C c → ⊥) → IsFinite C
finite_none C never = record { members = []; sound = λ c i. absurd i; complete = never }

-- a configuration alone is a finite set
pub finite_one : (x : Config) → IsFinite (λ c. c ≡ x)
finite_one x = record { members = x ∷ []; sound = λ c i. elim i [ inl is ↦ is | inr j ↦ absurd j ]; complete = λ c is. inl is }

module _ {X : Type 0} where
  -- what one list has, the list joined of it and another has
  In-left : (x : X) (xs ys : List X) → In x xs → In x (xs ++ ys)
  In-left x [] ys h = absurd h
  In-left x (y ∷ xs) ys (inl e) = inl e
  In-left x (y ∷ xs) ys (inr i) = inr (In-left x xs ys i)

  -- the same of the other list
  In-right : (x : X) (xs ys : List X) → In x ys → In x (xs ++ ys)
  In-right x [] ys h = h
  In-right x (y ∷ xs) ys h = inr (In-right x xs ys h)

  -- what the joined list has, one of the two has
  In-either : (x : X) (xs ys : List X) → In x (xs ++ ys) → In x xs ⊎ In x ys
  In-either x [] ys h = inr h
  In-either x (y ∷ xs) ys (inl e) = inl (inl e)
  In-either x (y ∷ xs) ys (inr i) = elim (In-either x xs ys i) [ inl j ↦ inl (inr j) | inr j ↦ inr j ]

-- two finite sets together are one
pub finite_both : (C D : Config → Type 0) → IsFinite C → IsFinite D → IsFinite (λ c. C c ⊎ D c)
finite_both C D f g = record {
  members = f.members ++ g.members;
  sound = λ c i. elim (In-either c f.members g.members i) [ inl j ↦ inl (f.sound c j) | inr j ↦ inr (g.sound c j) ];
  complete = λ c h. elim h [
    | inl x ↦ In-left c f.members g.members (f.complete c x)
    | inr y ↦ In-right c f.members g.members
        (g.complete c y)
  ];
}

module _ {X : Type 0} where
  -- so are finite sets, one for each of a list
  pub finite_some : (xs : List X) (Q : X → Config → Type 0) → ((x : X) → In x xs → IsFinite (Q x))
      → IsFinite (λ c. (x : X) × In x xs × Q x c)
  finite_some [] Q f = finite_none (λ c. (x : X) × In x [] × Q x c) (λ c h. h.1)
  finite_some (x ∷ xs) Q f =
      finite_same (λ c. Q x c ⊎ ((y : X) × In y xs × Q y c)) (λ c. (y : X) × In y (x ∷ xs) × Q y c)
      (λ c h. elim h [ inl q ↦ (x, inl refl, q) | inr r ↦ (r.0, inr r.1, r.2) ])
      (λ c (y, i, q). elim i [ inl is ↦ inl (subst (λ (z : X). Q z c) is q) | inr j ↦ inr (y, j, q) ])
      (finite_both (Q x) (λ c. (y : X) × In y xs × Q y c) (f x (inl refl)) (finite_some xs Q (λ y i. f y (inr i))))

-- so are finite sets, one for each of a finite set
pub finite_each : (C : Config → Type 0) (Q : Config → Config → Type 0) → IsFinite C → ((c : Config) → C c → IsFinite (Q c))
    → IsFinite (λ d. (c : Config) × C c × Q c d)
finite_each C Q f g =
    finite_same (λ d. (c : Config) × In c f.members × Q c d) (λ d. (c : Config) × C c × Q c d)
    (λ d (c, i, q). (c, f.sound c i, q))
    (λ d (c, h, q). (c, f.complete c h, q))
    (finite_some f.members Q (λ c i. g c (f.sound c i)))

-- those of a finite set for which a fact holds that can be decided are a finite set
pub finite_those : (C P : Config → Type 0) → IsFinite C → ((c : Config) → Dec (P c)) → IsFinite (λ c. C c × P c)
finite_those C P f decided =
    finite_same (λ d. (c : Config) × C c × (P c × (d ≡ c))) (λ c. C c × P c)
    (λ d (c, h, (p, is)). (subst C (sym is) h, subst P (sym is) p))
    (λ d (h, p). (d, h, (p, refl)))
    (finite_each C (λ c d. P c × (d ≡ c)) f (λ c h. by c (decided c)))
  where
    by : (c : Config) → Dec (P c) → IsFinite (λ d. P c × (d ≡ c))
    by c (yes p) = finite_same (λ d. d ≡ c) (λ d. P c × (d ≡ c)) (λ d is. (p, is)) (λ d h. h.1) (finite_one c)
    by c (no n) = finite_none (λ d. P c × (d ≡ c)) (λ d h. n h.0)

module _ {X : Type 0} where
  -- a fact that can be decided holds of all of a list, or fails for one of it
  pub all_or_one : (xs : List X) (P : X → Type 0) → ((x : X) → Dec (P x)) → ((x : X) → In x xs → P x) ⊎ ((x : X) × In x xs × (P x → ⊥))
  all_or_one [] P decided = inl (λ x i. absurd i)
  all_or_one (x ∷ xs) P decided = by (decided x) (all_or_one xs P decided)
    where
      by : Dec (P x) → ((y : X) → In y xs → P y) ⊎ ((y : X) × In y xs × (P y → ⊥))
          → ((y : X) → In y (x ∷ xs) → P y) ⊎ ((y : X) × In y (x ∷ xs) × (P y → ⊥))
      by (no n) more = inr (x, inl refl, n)
      by (yes p) (inr r) = inr (r.0, inr r.1, r.2)
      by (yes p) (inl all) = inl (λ y i. elim i [ inl is ↦ subst P (sym is) p | inr j ↦ all y j ])

  -- whether it is in a list can be decided where equality can
  In-decided : (x : X) → ((y : X) → Dec (x ≡ y)) → (xs : List X) → Dec (In x xs)
  In-decided x same [] = no (λ i. i)
  In-decided x same (y ∷ ys) = by (same y) (In-decided x same ys)
    where
      by : Dec (x ≡ y) → Dec (In x ys) → Dec (In x (y ∷ ys))
      by (yes e) more = yes (inl e)
      by (no n) (yes i) = yes (inr i)
      by (no n) (no m) = no (λ i. elim i [ inl e ↦ n e | inr j ↦ m j ])

-- whether a list has a number can be decided
pub contains_decided : (xs : List ℕ) (x : ℕ) → Dec (Contains xs x)
contains_decided xs x = by (In-decided x (ℕ_discrete x) xs)
  where
    by : Dec (In x xs) → Dec (Contains xs x)
    by (yes i) = yes (In-to xs x i)
    by (no n) = no (λ (k, less, is). n (In-from xs x k less is))

-- whether lists of numbers are equal can be decided
numbers_decided : (xs ys : List ℕ) → Dec (xs ≡ ys)
numbers_decided [] [] = yes refl
numbers_decided [] (y ∷ ys) = no (λ e. let clash : ⊥ = cc in clash)
numbers_decided (x ∷ xs) [] = no (λ e. let clash : ⊥ = cc in clash)
numbers_decided (x ∷ xs) (y ∷ ys) = by (ℕ_discrete x y) (numbers_decided xs ys)
  where
    by : Dec (x ≡ y) → Dec (xs ≡ ys) → Dec (x ∷ xs ≡ y ∷ ys)
    by (no n) more = no (λ e. n cc)
    by (yes p) (no n) = no (λ e. n cc)
    by (yes p) (yes q) = yes cc

-- whether two marks are equal can be decided
marks_decided : (v w : Bool) → Dec (v ≡ w)
marks_decided true true = yes refl
marks_decided false false = yes refl
marks_decided true false = no true≢false
marks_decided false true = no (λ e. true≢false (sym e))

-- configurations with equal parts are equal
by_parts : (c d : Config) → c.state ≡ d.state → c.alt ≡ d.alt → c.stack.returns ≡ d.stack.returns → c.stack.wild ≡ d.stack.wild → c ≡ d
by_parts c d p i rs w =
    let stack : c.stack ≡ d.stack = ap (λ (r : List ℕ). record { returns = r; wild = c.stack.wild }) rs
    ∙ ap (λ (m : Bool). record { returns = d.stack.returns; wild = m }) w in
    ap (λ (q : ℕ). config q c.alt c.stack) p ∙ ap (λ (a : ℕ). config d.state a c.stack) i ∙ ap (λ (z : Stack). config d.state d.alt z) stack

-- whether configurations are equal can be decided
same_decided : (c d : Config) → Dec (c ≡ d)
same_decided c d = by (ℕ_discrete c.state d.state) (ℕ_discrete c.alt d.alt) (numbers_decided c.stack.returns d.stack.returns)
    (marks_decided c.stack.wild d.stack.wild)
  where
    by : Dec (c.state ≡ d.state) → Dec (c.alt ≡ d.alt) → Dec (c.stack.returns ≡ d.stack.returns) → Dec (c.stack.wild ≡ d.stack.wild)
        → Dec (c ≡ d)
    by (yes p) (yes i) (yes rs) (yes w) = yes (by_parts c d p i rs w)
    by (no n) i rs w = no (λ e. n (ap (λ (x : Config). x.state) e))
    by (yes p) (no n) rs w = no (λ e. n (ap (λ (x : Config). x.alt) e))
    by (yes p) (yes i) (no n) w = no (λ e. n (ap (λ (x : Config). x.stack.returns) e))
    by (yes p) (yes i) (yes rs) (no n) = no (λ e. n (ap (λ (x : Config). x.stack.wild) e))

-- whether a configuration is of a finite set can be decided
pub has_decided : (C : Config → Type 0) → IsFinite C → (c : Config) → Dec (C c)
has_decided C f c = by (In-decided c (same_decided c) f.members)
  where
    by : Dec (In c f.members) → Dec (C c)
    by (yes i) = yes (f.sound c i)
    by (no n) = no (λ h. n (f.complete c h))
