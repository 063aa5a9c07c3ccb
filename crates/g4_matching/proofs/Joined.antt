-- Joining two partitions, one bound after another.
use Rattle.std.proofs.Common.{◌≡◌, ℕ, ◌+◌, ◌-◌, ◌<◌, ◌≤◌, ◌⊎◌, inl, inr, List, [], ◌∷◌, ◌++◌, cond, Some, length, get_or, slice_get, slice_index_or, nat_le, Contains, length-append, sym, ◌∙◌, ap, subst, arith}
use Rattle.std.proofs.lemmas.List.{get_or_append_left, get_or_default, get_or_push}
use Rattle.std.proofs.lemmas.List.Elements.{Contains-append_left, Contains-push, Contains-push_cases}
use Rattle.std.proofs.lemmas.List.Sums.{count_by-le-length}
use Rattle.std.proofs.lemmas.Option.{slice_get_within}
use Rattle.std.specs.BTreeMap.{BTreeMap}
use Rattle.std.specs.List.Sorted.{IsStrictlyIncreasing}
use Rattle.g4_matching.specs.Joining.{IsEnd, IsNext, IsPast, TellsBoth}
use Rattle.g4_matching.specs.Pairs.{Grows}
use Rattle.g4_matching.specs.Partitions.{Classing, IsPartition, class_by, class_in, part_in}
use Rattle.g4_matching.proofs.Counted.{is_past, later, not_past, one_after, part_is}
use Rattle.g4_matching.proofs.Lookups.{at_left, same_some}
use Rattle.g4_matching.proofs.Numbers.{IsOf, one_number}

-- the number is before the bound at the place, if there is one
abbrev pub IsBelow : ℕ → List ℕ → ℕ → Type 0
IsBelow a bounds i = i < length bounds → a < get_or bounds i 0

-- each bound before the place is among the others
abbrev pub AreIn : List ℕ → ℕ → List ℕ → Type 0
AreIn bounds i others = (k : ℕ) → k < i → Contains others (get_or bounds k 0)

-- Two partitions are joined up to two places. The bounds before these are among the joined ones, which are below what is left. A number
-- below what is left has the class of its pair.
pub record Going (left right : Classing) (i j : ℕ) (bounds classes : List ℕ) (pairs : List (ℕ × ℕ)) : Type 0 where
  pub left_within : i ≤ length left.bounds
  pub right_within : j ≤ length right.bounds
  pub left_in : AreIn left.bounds i bounds
  pub right_in : AreIn right.bounds j bounds
  pub rising : IsStrictlyIncreasing bounds
  pub below : (x : ℕ) → Contains bounds x → IsBelow x left.bounds i × IsBelow x right.bounds j
  pub parts : length classes ≡ length bounds + 1
  pub paired : (a : ℕ) → IsBelow a left.bounds i → IsBelow a right.bounds j
      → slice_get pairs (class_by bounds classes a) ≡ Some (class_in left a, class_in right a)

-- one is less or it is not
split : (a b : ℕ) → (a < b) ⊎ (b ≤ a)
split a b = grind arith

-- what is at a place is in the list
has_at : (xs : List ℕ) (k : ℕ) → k < length xs → Contains xs (get_or xs k 0)
has_at xs k less = (k, less, sym (get_or_default xs k 0 (get_or xs k 0) less))

-- what is read at a place
pub read_at : (xs : List ℕ) (k x : ℕ) → k < length xs → x ≡ get_or xs k x → x ≡ slice_index_or xs k 0
read_at xs k x less is = is ∙ get_or_default xs k x 0 less

-- what is added to a rising list rises
rising_push : (xs : List ℕ) (y : ℕ) → IsStrictlyIncreasing xs → ((x : ℕ) → Contains xs x → x < y) → IsStrictlyIncreasing (xs ++ y ∷ [])
rising_push xs y rising below k within = elim (split (k + 1) (length xs)) [
  | inl old ↦ (let r = rising k old in
      let e = get_or_append_left xs (y ∷ []) 0 k (omega arith) in
      let f = get_or_append_left xs (y ∷ []) 0 (k + 1) old in
      omega arith)
  | inr new ↦ (let n = length-append xs (y ∷ []) in
      let last : k + 1 ≡ length xs = omega arith in
      let e = get_or_append_left xs (y ∷ []) 0 k (omega arith) in
      let f = get_or_push xs y 0 (k + 1) (sym last) in
      let b = below (get_or xs k 0) (has_at xs k (omega arith)) in
      omega arith)
]

-- the part of a number past all bounds is the last
part_last : (bounds : List ℕ) (a : ℕ) → IsStrictlyIncreasing bounds → ((x : ℕ) → Contains bounds x → x ≤ a)
    → part_in bounds a ≡ length bounds
part_last bounds a rising past = part_is bounds (length bounds) a rising (omega arith)
    (λ k less. past (get_or bounds k 0) (has_at bounds k less)) (λ less. absurd (omega arith))

module _ (left right : Classing) (left_is : IsPartition left) (right_is : IsPartition right) where
  -- at first there is one part
  pub begins : (classes : List ℕ) (pairs : List (ℕ × ℕ)) (n : ℕ) → classes ≡ n ∷ []
      → slice_get pairs n ≡ Some (slice_index_or left.classes 0 0, slice_index_or right.classes 0 0)
      → Going left right 0 0 [] classes pairs
  begins classes pairs n is holds = record {
    left_within = omega arith;
    right_within = omega arith;
    left_in = λ k less. absurd (omega arith);
    right_in = λ k less. absurd (omega arith);
    rising = λ k less. absurd (omega arith);
    below = λ x has. let n = has.1 in absurd (omega arith);
    parts = ap length is;
    paired = λ a low high.
        let l : part_in left.bounds a ≡ 0 = part_is left.bounds 0 a left_is.rising (omega arith) (λ k less. absurd (omega arith)) low in
        let r : part_in right.bounds a ≡ 0 = part_is right.bounds 0 a right_is.rising (omega arith) (λ k less. absurd (omega arith)) high in
        ap (λ (cs : List ℕ). slice_get pairs (class_by [] cs a)) is ∙ holds
        ∙ ap (λ (m : ℕ). Some (slice_index_or left.classes m 0, slice_index_or right.classes 0 0)) (sym l)
        ∙ ap (λ (m : ℕ). Some (class_in left a, slice_index_or right.classes m 0)) (sym r);
  }

  module _ (i j : ℕ) (bounds classes : List ℕ) (pairs : List (ℕ × ℕ)) (g : Going left right i j bounds classes pairs) (b : ℕ)
      (next : IsNext left.bounds i right.bounds j b) where
    -- the joined bounds are below the next
    pub below_next : (x : ℕ) → Contains bounds x → x < b
    below_next x has = let l = (g.below x has).0 in let r = (g.below x has).1 in elim next.one [
      | inl at ↦ (let h = l at.0 in let e = at.1 in omega arith)
      | inr at ↦ (let h = r at.0 in let e = at.1 in omega arith)
    ]

    -- what is below the next bound is below what is left
    low_left : (a : ℕ) → a < b → IsBelow a left.bounds i
    low_left a less within = let h = next.left_after within in omega arith

    low_right : (a : ℕ) → a < b → IsBelow a right.bounds j
    low_right a less within = let h = next.right_after within in omega arith

    module _ (xs : List ℕ) (k m : ℕ) (rising : IsStrictlyIncreasing xs) (past : IsPast xs k b m) (after : k < length xs → b ≤ get_or xs k 0)
        (within : k ≤ length xs) where
      -- the place past the bound is within
      pub place_within : m ≤ length xs
      place_within = elim past [ inl at ↦ (let l = at.0.0 in let e = at.1 in omega arith) | inr not ↦ (let e = not.1 in omega arith) ]

      -- the bound is below what is left there
      bound_below : IsBelow b xs m
      bound_below less = elim past [
        | inl at ↦ (let e = at.1 in let r = later xs k m rising (omega arith) less in let f = at.0.1 in omega arith)
        | inr not ↦ (let e = not.1 in
            let same : get_or xs k 0 ≡ get_or xs m 0 = ap (λ (n : ℕ). get_or xs n 0) (sym e) in
            let here : k < length xs = omega arith in
            let le = after here in
            elim (split b (get_or xs m 0)) [
              | inl lt ↦ lt
              | inr ge ↦ absurd (not.0 (here, omega arith))
            ])
      ]

      -- and so is what was
      still_below : (x : ℕ) → IsBelow x xs k → IsBelow x xs m
      still_below x low less = elim past [
        | inl at ↦ (let e = at.1 in let r = later xs k m rising (omega arith) less in let h = low at.0.0 in omega arith)
        | inr not ↦ (let e = not.1 in let h = low (omega arith) in
            let same : get_or xs k 0 ≡ get_or xs m 0 = ap (λ (n : ℕ). get_or xs n 0) (sym e) in omega arith)
      ]

      -- the bounds before it are among those before and this one
      now_in : (others : List ℕ) → AreIn xs k others → AreIn xs m (others ++ b ∷ [])
      now_in others are n less = elim past [
        | inl at ↦ elim (split n k) [
          | inl old ↦ Contains-append_left others (b ∷ []) (get_or xs n 0) (are n old)
          | inr new ↦ (let e = at.1 in let same : n ≡ k = omega arith in
              let is : b ≡ get_or xs n 0 = sym at.0.1 ∙ ap (λ (p : ℕ). get_or xs p 0) (sym same) in
              subst (λ (x : ℕ). Contains (others ++ b ∷ []) x) is (Contains-push others b))
        ]
        | inr not ↦ (let e = not.1 in Contains-append_left others (b ∷ []) (get_or xs n 0) (are n (omega arith)))
      ]

      -- the part of a number from the bound on, and below what is left
      part_at : (others : List ℕ) (a : ℕ) → AreIn xs k others → ((x : ℕ) → Contains others x → x < b) → b ≤ a → IsBelow a xs m
          → part_in xs a ≡ m
      part_at others a are low from below = part_is xs m a rising place_within before below
        where
          before : (n : ℕ) → n < m → get_or xs n 0 ≤ a
          before n less = elim (Contains-push_cases others b (get_or xs n 0) (now_in others are n less)) [
            | inl old ↦ (let h = low (get_or xs n 0) old in omega arith)
            | inr same ↦ omega (arith, same)
          ]

    module _ (i' j' : ℕ) (past_left : IsPast left.bounds i b i') (past_right : IsPast right.bounds j b j') (new_bounds new_classes : List ℕ)
        (new_pairs : List (ℕ × ℕ)) (n : ℕ) (bounds_are : new_bounds ≡ bounds ++ b ∷ []) (classes_are : new_classes ≡ classes ++ n ∷ [])
        (grows : Grows pairs new_pairs)
        (holds : slice_get new_pairs n ≡ Some (slice_index_or left.classes i' 0, slice_index_or right.classes j' 0)) where
      -- the class of a number below the bound stays
      class_stays : (a : ℕ) → a < b → class_by (bounds ++ b ∷ []) (classes ++ n ∷ []) a ≡ class_by bounds classes a
      class_stays a less =
          let e : part_in (bounds ++ b ∷ []) a ≡ part_in bounds a =
          one_after bounds b a ∙ ap (λ (t : _). part_in bounds a + cond t 1 0) (is_past b a less) ∙ omega arith in
          let few = count_by-le-length (λ x. nat_le x a) bounds in
          let p = g.parts in
          ap (λ (m : ℕ). slice_index_or (classes ++ n ∷ []) m 0) e
          ∙ get_or_append_left classes (n ∷ []) 0 (part_in bounds a) (omega arith)

      -- that of a number from the bound on is the new one
      class_new : (a : ℕ) → b ≤ a → class_by (bounds ++ b ∷ []) (classes ++ n ∷ []) a ≡ n
      class_new a from =
          let e : part_in (bounds ++ b ∷ []) a ≡ part_in bounds a + 1 =
          one_after bounds b a ∙ ap (λ (t : _). part_in bounds a + cond t 1 0) (not_past b a from) in
          let last = part_last bounds a g.rising (λ x has. let l = below_next x has in omega arith) in
          let p = g.parts in
          get_or_push classes n 0 (part_in (bounds ++ b ∷ []) a) (omega arith)

      paired_more : (a : ℕ) → IsBelow a left.bounds i' → IsBelow a right.bounds j'
          → slice_get new_pairs (class_by (bounds ++ b ∷ []) (classes ++ n ∷ []) a) ≡ Some (class_in left a, class_in right a)
      paired_more a low high = elim (split a b) [
        | inl less ↦ (let old = g.paired a (low_left a less) (low_right a less) in
            ap (λ (m : ℕ). slice_get new_pairs m) (class_stays a less)
            ∙ ap (λ (ps : List (ℕ × ℕ)). slice_get ps (class_by bounds classes a)) grows.1
            ∙ at_left pairs grows.0 (class_by bounds classes a) (class_in left a, class_in right a) old)
        | inr from ↦ (
            let l : part_in left.bounds a ≡ i' =
            part_at left.bounds i i' left_is.rising past_left next.left_after g.left_within bounds a g.left_in below_next from low in
            let r : part_in right.bounds a ≡ j' =
            part_at right.bounds j j' right_is.rising past_right next.right_after g.right_within bounds a g.right_in below_next from high in
            ap (λ (m : ℕ). slice_get new_pairs m) (class_new a from) ∙ holds
            ∙ ap (λ (m : ℕ). Some (slice_index_or left.classes m 0, slice_index_or right.classes j' 0)) (sym l)
            ∙ ap (λ (m : ℕ). Some (class_in left a, slice_index_or right.classes m 0)) (sym r))
      ]

      going : Going left right i' j' (bounds ++ b ∷ []) (classes ++ n ∷ []) new_pairs
      going = record {
        left_within = place_within left.bounds i i' left_is.rising past_left next.left_after g.left_within;
        right_within = place_within right.bounds j j' right_is.rising past_right next.right_after g.right_within;
        left_in = now_in left.bounds i i' left_is.rising past_left next.left_after g.left_within bounds g.left_in;
        right_in = now_in right.bounds j j' right_is.rising past_right next.right_after g.right_within bounds g.right_in;
        rising = rising_push bounds b g.rising below_next;
        below = λ x has. elim (Contains-push_cases bounds b x has) [
          | inl old ↦ (
            still_below left.bounds i i' left_is.rising past_left next.left_after g.left_within x (g.below x old).0,
            still_below right.bounds j j' right_is.rising past_right next.right_after g.right_within x (g.below x old).1,
          )
          | inr same ↦ subst (λ (y : ℕ). IsBelow y left.bounds i' × IsBelow y right.bounds j') same (
            bound_below left.bounds i i' left_is.rising past_left next.left_after g.left_within,
            bound_below right.bounds j j' right_is.rising past_right next.right_after g.right_within,
          )
        ];
        parts = (let p = g.parts in let c = length-append classes (n ∷ []) in let d = length-append bounds (b ∷ []) in omega arith);
        paired = paired_more;
      }

      -- one bound more
      pub goes_on : Going left right i' j' new_bounds new_classes new_pairs
      goes_on = subst (λ (cs : List ℕ). Going left right i' j' new_bounds cs new_pairs) (sym classes_are)
          (subst (λ (bs : List ℕ). Going left right i' j' bs (classes ++ n ∷ []) new_pairs) (sym bounds_are) going)

      -- the places are further
      further : i + j < i' + j'
      further = elim next.one [
        | inl at ↦ elim past_left [
          | inl p ↦ (let e = p.1 in elim past_right [ inl q ↦ (let f = q.1 in omega arith) | inr q ↦ (let f = q.1 in omega arith) ])
          | inr p ↦ absurd (p.0 at)
        ]
        | inr at ↦ elim past_right [
          | inl q ↦ (let f = q.1 in elim past_left [ inl p ↦ (let e = p.1 in omega arith) | inr p ↦ (let e = p.1 in omega arith) ])
          | inr q ↦ absurd (q.0 at)
        ]
      ]

      -- so less is left
      pub less_left : length left.bounds + length right.bounds - (i' + j') < length left.bounds + length right.bounds - (i + j)
      less_left =
          let l = place_within left.bounds i i' left_is.rising past_left next.left_after g.left_within in
          let r = place_within right.bounds j j' right_is.rising past_right next.right_after g.right_within in
          let f = further in
          omega arith

  module _ (i j : ℕ) (bounds classes : List ℕ) (pairs : List (ℕ × ℕ)) (m : BTreeMap (ℕ × ℕ) ℕ)
      (g : Going left right i j bounds classes pairs) (left_end : IsEnd left.bounds i) (right_end : IsEnd right.bounds j)
      (store : IsOf pairs m) (c : Classing) (bounds_are : c.bounds ≡ bounds)
      (classes_are : c.classes ≡ classes) (count_is : c.count ≡ length pairs) where
    class_is : (a : ℕ) → class_in c a ≡ class_by bounds classes a
    class_is a = ap (λ (l : List ℕ). class_by c.bounds l a) classes_are ∙ ap (λ (l : List ℕ). class_by l classes a) bounds_are

    pair_of : (a : ℕ) → slice_get pairs (class_in c a) ≡ Some (class_in left a, class_in right a)
    pair_of a = ap (λ (k : ℕ). slice_get pairs k) (class_is a)
        ∙ g.paired a (λ less. absurd (omega (arith, left_end))) (λ less. absurd (omega (arith, right_end)))

    -- the end is a partition
    pub ends_partition : IsPartition c
    ends_partition = record {
      rising = subst IsStrictlyIncreasing (sym bounds_are) g.rising;
      parts = (let p = g.parts in let e = ap length bounds_are in let f = ap length classes_are in omega arith);
      within = λ a.
          let w = slice_get_within pairs (class_in c a) (class_in left a, class_in right a) (pair_of a) in omega (arith, count_is);
    }

    -- which tells apart what one of the two does
    pub ends_telling : TellsBoth left right c
    ends_telling a b = (
      λ same.
          let e = sym (pair_of a) ∙ ap (λ (k : ℕ). slice_get pairs k) same ∙ pair_of b in
          let p : (class_in left a, class_in right a) ≡ (class_in left b, class_in right b) = same_some _ _ e in
          (ap (λ (x : ℕ × ℕ). x.0) p, ap (λ (x : ℕ × ℕ). x.1) p),
      λ same.
          let e : (class_in left a, class_in right a) ≡ (class_in left b, class_in right b) =
          ap (λ (x : ℕ). (x, class_in right a)) same.0 ∙ ap (λ (x : ℕ). (class_in left b, x)) same.1 in
          one_number pairs m (class_in left b, class_in right b) (class_in c a) (class_in c b) store (pair_of a ∙ ap Some e) (pair_of b),
    )
