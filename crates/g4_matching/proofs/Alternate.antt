-- Classes that are 0 and 1 in turn.
use Rattle.std.proofs.Common.{◌≡◌, ℕ, ◌+◌, ◌-◌, ◌<◌, ◌≤◌, ◌⊎◌, inl, inr, List, [], ◌∷◌, ◌++◌, length, slice_index_or, length-append, sym, ◌∙◌, ap, subst, arith}
use Rattle.std.proofs.lemmas.List.{get_or_append_left, get_or_past, get_or_push}
use Rattle.g4_matching.specs.Partitions.{AreAlternate}

-- the class is the one after these
abbrev pub IsNextClass : ℕ → List ℕ → ℕ → Type 0
IsNextClass parts classes class =
    (parts ≡ 0 → class ≡ 0) × ((k : ℕ) → k + 1 ≡ parts → class ≡ 1 - slice_index_or classes k 0)

-- one is less or it is not
split : (m n : ℕ) → (m < n) ⊎ (n ≤ m)
split m n = grind arith

module _ (parts : ℕ) (classes : List ℕ) (class : ℕ) (h : AreAlternate parts classes) (small : class < 2)
    (next : IsNextClass parts classes class) where
  three : (k : ℕ) → (k < length classes) ⊎ ((k ≡ length classes) ⊎ (length classes < k))
  three k = elim (split k (length classes)) [
    | inl less ↦ inl less
    | inr le ↦ elim (split (length classes) k) [ inl past ↦ inr (inr past) | inr same ↦ inr (inl (omega arith)) ]
  ]

  left : (k : ℕ) → k < length classes → slice_index_or (classes ++ class ∷ []) k 0 ≡ slice_index_or classes k 0
  left k less = get_or_append_left classes (class ∷ []) 0 k less

  last : (k : ℕ) → k ≡ length classes → slice_index_or (classes ++ class ∷ []) k 0 ≡ class
  last k is = get_or_push classes class 0 k (sym is)

  one_more : AreAlternate (parts + 1) (classes ++ class ∷ [])
  one_more = record {
    count = (let n = length-append classes (class ∷ []) in let m = h.count in omega arith);
    first = elim (three 0) [
      | inl less ↦ left 0 less ∙ h.first
      | inr more ↦ elim more [
        | inl is ↦ (let m = h.count in last 0 is ∙ next.0 (omega arith))
        | inr past ↦ absurd (omega arith)
      ]
    ];
    next = λ k within. let m = h.count in elim (three (k + 1)) [
      | inl less ↦ left (k + 1) less ∙ h.next k (omega arith)
          ∙ ap (λ (n : ℕ). 1 - n) (sym (left k (omega arith)))
      | inr more ↦ elim more [
        | inl is ↦ last (k + 1) is ∙ next.1 k (omega arith) ∙ ap (λ (n : ℕ). 1 - n) (sym (left k (omega arith)))
        | inr past ↦ absurd (omega arith)
      ]
    ];
    within = λ k. elim (three k) [
      | inl less ↦ (let e = left k less in let w = h.within k in omega arith)
      | inr more ↦ elim more [
        | inl is ↦ (let e = last k is in omega arith)
        | inr past ↦ (let n = length-append classes (class ∷ []) in
            let e = get_or_past (classes ++ class ∷ []) k 0 (omega arith) in omega arith)
      ]
    ];
  }

  pub alternate_more : (new : List ℕ) → new ≡ classes ++ class ∷ [] → AreAlternate (parts + 1) new
  alternate_more new is = subst (AreAlternate (parts + 1)) (sym is) one_more

  pub next_more : (new : List ℕ) → new ≡ classes ++ class ∷ [] → IsNextClass (parts + 1) new (1 - class)
  next_more new is = (
    (λ none. absurd (omega arith)),
    (λ k at. let m = h.count in
        ap (λ (n : ℕ). 1 - n) (sym (last k (omega arith))) ∙ ap (λ (l : List ℕ). 1 - slice_index_or l k 0) (sym is)),
  )

-- with none yet
pub alternate_none : (classes : List ℕ) → classes ≡ [] → AreAlternate 0 classes × IsNextClass 0 classes 0
alternate_none classes is = subst (λ (l : List ℕ). AreAlternate 0 l × IsNextClass 0 l 0) (sym is) (
  record {
    count = omega arith;
    first = omega arith;
    next = λ k within. absurd (omega arith);
    within = λ k. small k;
  },
  ((λ _. omega arith), λ k at. absurd (omega arith)),
)
  where
    small : (k : ℕ) → slice_index_or [] k 0 < 2
    small k = omega arith
