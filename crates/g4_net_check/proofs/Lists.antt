-- Members of lists, and lists by their index.
use Rattle.std.proofs.Common.{◌≡◌, ◌↔◌, ℕ, zero, suc, ◌<◌, ◌≤◌, ◌⊎◌, inl, inr, List, [], ◌∷◌, ◌++◌, length, get_or, set, Bool, true, false, true≢false, IsTrue, Some, Result, Ok, Err, is_ok, MatchResult, ◌∙◌, Vec, refl, sym, ap, subst, arith}
use Rattle.std.specs.Global.{Global}
use Rattle.std.specs.Bool.{MatchBool}
use Rattle.std.specs.List.{slice_get, All, AllWithin, HoldsAt, Contains}
use Rattle.std.proofs.lemmas.List.Elements.{All-contains, Contains-get_or, Contains-push, Contains-push_cases, Contains-append_left}
use Rattle.std.proofs.lemmas.Bool.{MatchBool-at_true, cases_lt}
use Rattle.std.proofs.lemmas.List.{get_or_default}
use Rattle.std.proofs.lemmas.Iterator.Search.{true_from_All}
use Rattle.std.proofs.lemmas.Option.{same_Some, slice_get_read}
use Rattle.g4_cycles.specs.Edges.{Graph, listed_by, successors_of, EdgeOf}

-- no item is in an empty list
pub in_nothing : {X : Type 0} (x : X) → Contains [] x → ⊥
in_nothing x h = omega (arith, h.1)

-- the only item of a list
pub in_one : {X : Type 0} (x y : X) → Contains (x ∷ []) y → x ≡ y
in_one x y (zero, within, is) = is
in_one x y (suc k, within, is) = absurd (omega (arith, within))

-- the item that is pushed, or one from before
pub in_pushed : {X : Type 0} (before after : List X) (x : X) → after ≡ before ++ x ∷ [] → (y : X)
    → Contains after y ↔ (Contains before y ⊎ (x ≡ y))
in_pushed {X} before after x pushed y = (
  λ h. Contains-push_cases before x y (subst (λ (l : List X). Contains l y) pushed h),
  λ h. subst (λ (l : List X). Contains l y) (sym pushed) (elim h [
    | inl old ↦ Contains-append_left before (x ∷ []) y old
    | inr is ↦ subst (Contains (before ++ x ∷ [])) is (Contains-push before x)
  ]),
)

-- by its index, it is the item that is pushed, or one from before
pub pushed_cases : {X : Type 0} (xs : List X) (y : X) (k : ℕ) (x : X) → slice_get (xs ++ y ∷ []) k ≡ Some x
    → (slice_get xs k ≡ Some x) ⊎ ((k ≡ length xs) × (y ≡ x))
pushed_cases [] y zero x at = inr (refl, same_Some y x at)
pushed_cases [] y (suc k) x at = absurd (let n : ⊥ = cc in n)
pushed_cases (z ∷ xs) y zero x at = inl at
pushed_cases (z ∷ xs) y (suc k) x at = elim (pushed_cases xs y k x at) [ inl old ↦ inl old | inr new ↦ inr (ap suc new.0, new.1) ]

-- one more item in one of the lists
pub added_to : (lists : Graph) (r x : ℕ) (v : Vec ℕ Global) → r < length lists → v.items ≡ successors_of lists r ++ x ∷ [] → (k t : ℕ)
    → EdgeOf (set lists r v) k t ↔ (EdgeOf lists k t ⊎ ((k ≡ r) × (x ≡ t)))
added_to [] r x v within pushed k t = absurd (omega (arith, within))
added_to (w ∷ lists) zero x v within pushed zero t =
    let cases = in_pushed w.items v.items x pushed t in (
      λ h. elim (cases.0 h) [ inl old ↦ inl old | inr is ↦ inr (refl, is) ],
      λ h. cases.1 (elim h [ inl old ↦ inl old | inr new ↦ inr new.1 ]),
    )
added_to (w ∷ lists) zero x v within pushed (suc k) t =
    (λ h. inl h, λ h. elim h [ inl old ↦ old | inr new ↦ absurd (omega (arith, new.0)) ])
added_to (w ∷ lists) (suc r) x v within pushed zero t =
    (λ h. inl h, λ h. elim h [ inl old ↦ old | inr new ↦ absurd (omega (arith, new.0)) ])
added_to (w ∷ lists) (suc r) x v within pushed (suc k) t =
    let rest = added_to lists r x v (omega (arith, within)) pushed k t in (
      λ h. elim (rest.0 h) [ inl old ↦ inl old | inr new ↦ inr (ap suc new.0, new.1) ],
      λ h. rest.1 (elim h [ inl old ↦ inl old | inr new ↦ inr (omega (arith, new.0), new.1) ]),
    )

-- an item is the first one or one of the rest
pub cons_cases : {X : Type 0} (x : X) (xs : List X) (y : X) → Contains (x ∷ xs) y → (x ≡ y) ⊎ Contains xs y
cons_cases x xs y (zero, within, is) = inl is
cons_cases x xs y (suc k, within, is) = inr (k, omega (arith, within), is)

-- each of the items is in the other list
pub each_among : {X : Type 0} (xs ys : List X) → All (Contains ys) xs ↔ ((x : X) → Contains xs x → Contains ys x)
each_among xs ys = (λ all x has. All-contains (Contains ys) xs x all has, λ h k d within. h (get_or xs k d) (Contains-get_or xs k d within))

-- what `all` answers of a test of P
pub all_answer : {X : Type 0} (P : X → Type 0) (r : Bool) (xs : List X)
    → MatchBool r (AllWithin P xs 0 (length xs)) ((k : ℕ) × (k < length xs) × HoldsAt (λ (x : X). P x → ⊥) xs k) → IsTrue r ↔ All P xs
all_answer P r xs cases = (
  (λ t k d lt. (MatchBool-at_true _ _ t cases) k d (omega arith) lt),
  (λ all. true_from_All P (λ x. P x → ⊥) r xs (λ x p n. n p) cases all),
)

-- what a search of numbers that rise finds
pub search_answer : (xs : List ℕ) (x : ℕ) (r : Result ℕ ℕ)
    → MatchResult r (λ i. (i < length xs) × (get_or xs i 0 ≡ x))
    (λ i. (i ≤ length xs) × ((k : ℕ) → k < i → get_or xs k 0 < x) × ((k : ℕ) → i ≤ k → k < length xs → x < get_or xs k 0))
    → IsTrue (is_ok r) ↔ Contains xs x
search_answer xs x (Ok i) (within, is) = (λ t. (i, within, get_or_default xs i x 0 within ∙ is), λ has. refl)
search_answer xs x (Err i) (within, before, after) = (λ t. absurd (cc), λ has. absurd (none has))
  where
    none : Contains xs x → ⊥
    none (k, less, is) =
        let same : get_or xs k 0 ≡ x = get_or_default xs k 0 x less ∙ is in
        elim (cases_lt k i) [ inl early ↦ omega (arith, before k early, same) | inr late ↦ omega (arith, after k late less, same) ]

-- two lists with the same members as these
module _ {X : Type 0} (one other a b : List X) (from_one : (x : X) → Contains one x ↔ Contains a x)
    (from_other : (x : X) → Contains other x ↔ Contains b x) where
  abbrev Same : Type 0
  Same = (x : X) → Contains one x ↔ Contains other x

  pub not_same : (p r : Bool) → p ≡ false → r ≡ p → (IsTrue p ↔ All (Contains b) a) → IsTrue r ↔ Same
  not_same p r wrong_one as_one is = (λ t. absurd (true≢false (sym t ∙ (as_one ∙ wrong_one))), λ same. absurd (never same))
    where
      never : Same → ⊥
      never same = true≢false (sym (is.1 ((each_among a b).1 (λ x has. (from_other x).0 ((same x).0 ((from_one x).1 has))))) ∙ wrong_one)

  pub same_answer : (p q : Bool) → p ≡ true → (IsTrue p ↔ All (Contains b) a) → (IsTrue q ↔ All (Contains a) b) → IsTrue q ↔ Same
  same_answer p q right_one is back = (
    λ t. λ x. (
      λ has. (from_other x).1 ((each_among a b).0 (is.0 right_one) x ((from_one x).0 has)),
      λ has. (from_one x).1 ((each_among b a).0 (back.0 t) x ((from_other x).0 has)),
    ),
    λ same. back.1 ((each_among b a).1 (λ x has. (from_one x).0 ((same x).1 ((from_other x).1 has)))),
  )

-- the list at an index
pub list_at : (lists : Graph) (r : ℕ) (w : Vec ℕ Global) → r < length lists → w ≡ get_or lists r w → w.items ≡ successors_of lists r
list_at lists r w within at = sym (ap listed_by (slice_get_read lists (length lists) r w refl within at))
