-- The greatest of the levels at which something changes, up to a level, is the guard of that level.
use Rattle.std.proofs.Common.{◌≡◌, ◌≤◌, ◌<◌, ◌⊎◌, inl, inr, ℕ, ◌+◌, ◌-◌, ◌^◌, List, [], ◌∷◌, ◌++◌, Bool, true, false, Option, Some, None, Contains, length, take, get_or, slice_get, nat_lt, if◌then◌else◌, append_assoc, refl, sym, ◌∙◌, ap, subst, arith}
use Rattle.std.proofs.lemmas.Bool.Decides.{nat_tests}
use Rattle.std.proofs.lemmas.List.{take_more}
use Rattle.std.proofs.lemmas.List.Elements.{Contains-append_left, Contains-append_right, Contains-append_cases}
use Rattle.std.proofs.lemmas.Option.{slice_get_read, slice_get_within, get_or_from_slice_get}
use Rattle.g4_net.specs.declared.network.State.{State}
use Rattle.g4_net.specs.declared.network.State.TheVariants.{Decision, End, Edge, Call, Predicate, Level, Action, Empty}
use Rattle.g4_net.specs.Network.{ParserNetwork, state_at, IsFirst}
use Rattle.g4_net.proofs.Pigeons.{In, In-from, In-to}
use Rattle.g4_lookahead.proofs.OneChoice.{one_first}
use Rattle.g4_guards.specs.Levels.{MeetsBy, AllowedAt, AllowSame, IsGuard, at_level}
use Rattle.g4_guards.specs.Tests.{HasNoPredicate}
use Rattle.g4_guards.proofs.Digits.{allowed_meets}
use Rattle.g4_learned.specs.Levels.{next_level, next_levels, AreLevels}

-- what is asked of a level
meets_level : (n q u : ℕ) (o : Option (State (List ℕ))) → o ≡ Some (Level q u) → MeetsBy n o → n ≤ q
meets_level n q u o is meets = let m : MeetsBy n (Some (Level q u)) = subst (MeetsBy n) is meets in m

-- and of nothing else
pub meets_by : (n : ℕ) (o : Option (State (List ℕ))) → ((q u : ℕ) → o ≡ Some (Level q u) → n ≤ q) → MeetsBy n o
meets_by n None h = tt
meets_by n (Some (Decision targets)) h = tt
meets_by n (Some (End rule)) h = tt
meets_by n (Some (Edge set t)) h = tt
meets_by n (Some (Call rule level back)) h = tt
meets_by n (Some (Predicate k t)) h = tt
meets_by n (Some (Level q u)) h = h q u refl
meets_by n (Some (Action t)) h = tt
meets_by n (Some (Empty t)) h = tt

-- the one number of a list of it
only_one : (m l : ℕ) → Contains (m ∷ []) l → l ≡ m
only_one m l (k, less, is) = elim (In-from (m ∷ []) l k less is) [ inl e ↦ e | inr none ↦ absurd none ]

-- the next level of a level that a `u32` can pass
next_of : (q u : ℕ) → q + 1 < 2 ^ 32 → Contains (next_level (Some (Level q u))) (q + 1)
next_of q u less = let yes : nat_lt q (2 ^ 32 - 1) ≡ true = grind (arith, nat_tests) in
    subst (λ (b : Bool). Contains (if b then (q + 1) ∷ [] else []) (q + 1)) (sym yes) (In-to ((q + 1) ∷ []) (q + 1) (inl refl))

-- a next level is that of a level
next_from : (o : Option (State (List ℕ))) (l : ℕ) → Contains (next_level o) l
    → (q : ℕ) × (u : ℕ) × (o ≡ Some (Level q u)) × (l ≡ q + 1) × (l < 2 ^ 32)
next_from None l (k, less, is) = absurd (omega (arith, less))
next_from (Some (Decision targets)) l (k, less, is) = absurd (omega (arith, less))
next_from (Some (End rule)) l (k, less, is) = absurd (omega (arith, less))
next_from (Some (Edge set t)) l (k, less, is) = absurd (omega (arith, less))
next_from (Some (Call rule level back)) l (k, less, is) = absurd (omega (arith, less))
next_from (Some (Predicate n t)) l (k, less, is) = absurd (omega (arith, less))
next_from (Some (Action t)) l (k, less, is) = absurd (omega (arith, less))
next_from (Some (Empty t)) l (k, less, is) = absurd (omega (arith, less))
next_from (Some (Level q u)) l has = by (nat_lt q (2 ^ 32 - 1)) refl has
  where
    by : (b : Bool) → nat_lt q (2 ^ 32 - 1) ≡ b → Contains (if b then (q + 1) ∷ [] else []) l
        → (p : ℕ) × (v : ℕ) × Path (Option (State (List ℕ))) (Some (Level q u)) (Some (Level p v)) × (l ≡ p + 1) × (l < 2 ^ 32)
    by true t c =
        let is = only_one (q + 1) l c in
        let small : q < 2 ^ 32 - 1 = grind (arith, nat_tests) in
        (q, u, refl, is, omega (arith, is, small))
    by false f (k, less, is) = absurd (omega (arith, less))

-- the next levels have those of each first state
pub has_next : (net : ParserNetwork) (ts : List ℕ) (t l : ℕ) → In t ts → Contains (next_level (state_at net t)) l
    → Contains (next_levels net ts) l
has_next net [] t l i c = absurd i
has_next net (s ∷ ts) t l (inl e) c =
    Contains-append_left (next_level (state_at net s)) (next_levels net ts) l
    (subst (λ (p : ℕ). Contains (next_level (state_at net p)) l) e c)
has_next net (s ∷ ts) t l (inr i) c =
    Contains-append_right (next_level (state_at net s)) (next_levels net ts) l (has_next net ts t l i c)

-- and no others
pub from_next : (net : ParserNetwork) (ts : List ℕ) (l : ℕ) → Contains (next_levels net ts) l
    → (t : ℕ) × In t ts × Contains (next_level (state_at net t)) l
from_next net [] l (k, less, is) = absurd (omega (arith, less))
from_next net (s ∷ ts) l c = elim (Contains-append_cases (next_level (state_at net s)) (next_levels net ts) l c) [
  | inl here ↦ (s, inl refl, here)
  | inr later ↦ (let r = from_next net ts l later in (r.0, inr r.1, r.2))
]

-- those of some first states and one more
pub next_more : (net : ParserNetwork) (ts : List ℕ) (t : ℕ)
    → next_levels net (ts ++ t ∷ []) ≡ next_levels net ts ++ next_level (state_at net t)
next_more net [] t = nothing_more (next_level (state_at net t))
  where
    nothing_more : (xs : List ℕ) → xs ++ [] ≡ xs
    nothing_more [] = refl
    nothing_more (x ∷ xs) = ap (λ (l : List ℕ). x ∷ l) (nothing_more xs)
next_more net (s ∷ ts) t =
    ap (λ (l : List ℕ). next_level (state_at net s) ++ l) (next_more net ts t)
    ∙ sym (append_assoc (next_level (state_at net s)) (next_levels net ts) (next_level (state_at net t)))

-- a target is a first state, and a first state is a target
first_of : (net : ParserNetwork) (d t : ℕ) (targets : List ℕ) → state_at net d ≡ Some (Decision targets) → In t targets
    → (i : ℕ) × IsFirst net d i t
first_of net d t targets at i =
    let (k, less, is) = In-to targets t i in
    (k + 1, (targets, k, at, slice_get_read targets (length targets) k t refl less (sym is), refl))

target_of : (net : ParserNetwork) (d i t : ℕ) (targets : List ℕ) → state_at net d ≡ Some (Decision targets) → IsFirst net d i t
    → In t targets
target_of net d i t targets at (others, k, at', is, e) =
    let same : others ≡ targets = cc in
    let here : slice_get targets k ≡ Some t = subst (λ (ts : List ℕ). slice_get ts k ≡ Some t) same is in
    In-from targets t k (slice_get_within targets k t here) (get_or_from_slice_get targets k t t here)

-- one number is at most another, or above it
at_most_or_above : (m n : ℕ) → (m ≤ n) ⊎ (n < m)
at_most_or_above m n = grind arith

-- a first state of alternative i may be passed at the level
abbrev MetAt : ParserNetwork → ℕ → ℕ → ℕ → Type 0
MetAt net d n i = (t : ℕ) × IsFirst net d i t × MeetsBy n (state_at net t)

module _ (net : ParserNetwork) (d : ℕ) (targets levels : List ℕ) (at : state_at net d ≡ Some (Decision targets))
    (are : AreLevels net targets levels) where
  -- a level is a `u32`
  pub level_fits : (l : ℕ) → Contains levels l → l < 2 ^ 32
  level_fits l c = elim (are.only l c) [
    | inl none ↦ omega (arith, none)
    | inr some ↦ (let n = from_next net targets l some in let q = next_from (state_at net n.0) l n.2 in q.4)
  ]

  -- what may be passed at the greatest level up to another, may be passed at the other one
  up : (g level i : ℕ) → level < 2 ^ 32 → ((l : ℕ) → Contains levels l → l ≤ level → l ≤ g) → MetAt net d g i → MetAt net d level i
  up g level i fits greatest (t, first, meets) = (
    t,
    first,
    meets_by level (state_at net t) (λ q u is. below q u is
        (meets_level g q u (state_at net t) is meets) (at_most_or_above level q)),
  )
    where
      below : (q u : ℕ) → state_at net t ≡ Some (Level q u) → g ≤ q → (level ≤ q) ⊎ (q < level) → level ≤ q
      below q u is le (inl enough) = enough
      below q u is le (inr less) =
          let next : Contains (next_level (state_at net t)) (q + 1) =
          subst (λ (o : Option (State (List ℕ))). Contains (next_level o) (q + 1)) (sym is) (next_of q u (omega (arith, less, fits))) in
          let c = are.all (q + 1) (inr (has_next net targets t (q + 1) (target_of net d i t targets at first) next)) in
          let high : q + 1 ≤ g = greatest (q + 1) c (omega (arith, less)) in
          absurd (omega (arith, high, le))

  -- and the other way round
  down : (g level i : ℕ) → g ≤ level → MetAt net d level i → MetAt net d g i
  down g level i le (t, first, meets) = (
    t,
    first,
    meets_by g (state_at net t) (λ q u is.
        let m = meets_level level q u (state_at net t) is meets in omega (arith, m, le)),
  )

  -- that it may be passed is that it may be taken
  taken : HasNoPredicate net d → (n i : ℕ) → MetAt net d n i → AllowedAt net d n i
  taken none n i (t, first, meets) = (t, first, at_level none meets)

  -- no level below it allows the same
  lowest : HasNoPredicate net d → (g level n : ℕ) → Contains levels g → g ≤ level → AllowSame net d n level → g ≤ n
  lowest no_tests g level n c le same = by (are.only g c) (at_most_or_above g n)
    where
      by : (g ≡ 0) ⊎ Contains (next_levels net targets) g → (g ≤ n) ⊎ (n < g) → g ≤ n
      by (inl none) h = omega (arith, none)
      by (inr some) (inl enough) = enough
      by (inr some) (inr less) =
          let (t, i, next) = from_next net targets g some in
          let (q, u, is, e, fits) = next_from (state_at net t) g next in
          let (j, first) = first_of net d t targets at i in
          let passed : MeetsBy n (state_at net t) = meets_by n (state_at net t) (λ p v at'.
          let s : Path (Option (State (List ℕ))) (Some (Level q u)) (Some (Level p v)) = sym is ∙ at' in
          let p_is : q ≡ p = cc in omega (arith, less, e, p_is)) in
          let (t', first', meets) = allowed_meets net d level j no_tests ((same j).0 (taken no_tests n j (t, first, passed))) in
          let t_is : t' ≡ t = one_first net d j t' t first' first in
          let m = meets_level level q u (state_at net t') (ap (state_at net) t_is ∙ is) meets in
          absurd (omega (arith, m, le, e))

  -- so it is the guard
  pub guard_at : HasNoPredicate net d → (g level : ℕ) → level < 2 ^ 32 → Contains levels g → g ≤ level
      → ((l : ℕ) → Contains levels l → l ≤ level → l ≤ g) → IsGuard net d level g
  guard_at none g level fits c le greatest = record {
    same = λ i. (
      (λ may. taken none level i (up g level i fits greatest (allowed_meets net d g i none may))),
      (λ may. taken none g i (down g level i le (allowed_meets net d level i none may))),
    );
    least = λ n same. lowest none g level n c le same;
  }

-- the levels of first states, collected one by one
pub levels_more : (net : ParserNetwork) (targets : List ℕ) (k t : ℕ) (old new : List ℕ) → k < length targets
    → old ≡ 0 ∷ next_levels net (take k targets) → new ≡ old ++ next_level (state_at net (get_or targets k t))
    → new ≡ 0 ∷ next_levels net (take (k + 1) targets)
levels_more net targets k t old new less was is =
    is ∙ ap (λ (ls : List ℕ). ls ++ next_level (state_at net (get_or targets k t))) was
    ∙ ap (λ (ls : List ℕ). 0 ∷ ls) (sym (next_more net (take k targets) (get_or targets k t)))
    ∙ ap (λ (ts : List ℕ). 0 ∷ next_levels net ts) (sym (take_more targets k t less))

-- 0 and the others
pub levels_in : (ls : List ℕ) (l : ℕ) → (l ≡ 0) ⊎ Contains ls l → Contains (0 ∷ ls) l
levels_in ls l (inl none) = In-to (0 ∷ ls) l (inl none)
levels_in ls l (inr (k, less, is)) = In-to (0 ∷ ls) l (inr (In-from ls l k less is))

pub levels_from : (ls : List ℕ) (l : ℕ) → Contains (0 ∷ ls) l → (l ≡ 0) ⊎ Contains ls l
levels_from ls l (k, less, is) = elim (In-from (0 ∷ ls) l k less is) [ inl none ↦ inl none | inr i ↦ inr (In-to ls l i) ]
