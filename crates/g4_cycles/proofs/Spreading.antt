-- The search that gives nodes their distances to a root, level by level.
use Rattle.std.proofs.Common.{◌≡◌, ◌<◌, ◌≤◌, ◌+◌, ◌⊎◌, inl, inr, ℕ, zero, suc, List, [], ◌∷◌, Contains, Option, Some, None, IsSome, length, set, min, refl, sym, ◌∙◌, subst, arith, length-set, get_or-set_same, get_or-set_other}
use Rattle.std.proofs.lemmas.Bool.{cases_eq, cases_lt}
use Rattle.std.proofs.lemmas.List.Sums.{count_by-le-length}
use Rattle.std.specs.Option.{is_none}
use Rattle.g4_cycles.specs.Cycles.{Reaches, once, further}
use Rattle.g4_cycles.specs.Edges.{Graph, EdgeOf, Backward, IsReverse}
use Rattle.g4_cycles.specs.Marks.{distance_of, IsOpen, open_count, AreMarked, IsSpread, AreDistances}
use Rattle.g4_cycles.proofs.EdgesOf.{nothing_in}
use Rattle.g4_cycles.proofs.Marking.{option_cases, value_of, is_some_of, none_or_some, same_value, distance_within, opened}

-- The search got as far as this distance, which the nodes of the level have.
pub record IsSpreading (Edge : ℕ → ℕ → Type 0) (root : ℕ) (old new : List (Option ℕ)) (distance : ℕ) (level : List ℕ) : Type 0 where
  pub size : length new ≡ length old
  pub kept : (k m : ℕ) → distance_of old k ≡ Some m → distance_of new k ≡ Some m
  pub at_root : distance_of new root ≡ Some 0
  pub zero_at_root : (k : ℕ) → distance_of old k ≡ None → distance_of new k ≡ Some 0 → k ≡ root
  pub next : (k m : ℕ) → distance_of old k ≡ None → distance_of new k ≡ Some (suc m) → (i : ℕ) × Edge k i × (distance_of new i ≡ Some m)
  pub most : (k m : ℕ) → distance_of old k ≡ None → distance_of new k ≡ Some m → m ≤ distance
  pub in_level : (k : ℕ) → Contains level k → distance_of new k ≡ Some distance
  pub level_all : (k : ℕ) → distance_of old k ≡ None → distance_of new k ≡ Some distance → Contains level k
  pub before : (k i m : ℕ) → Edge k i → distance_of old i ≡ None → distance_of new i ≡ Some m → m < distance
      → IsSome (distance_of old k) ⊎ ((j : ℕ) × (distance_of new k ≡ Some j) × (j ≤ suc m))
  pub room : distance + open_count new + min 1 (length level) ≤ length old

-- the one item of a list
only_one : (x k : ℕ) → Contains (x ∷ []) k → x ≡ k
only_one x k (zero, within, is) = is
only_one x k (suc j, within, is) = absurd (omega (arith, within))

module _ (Edge : ℕ → ℕ → Type 0) (root : ℕ) (old : List (Option ℕ)) where
  -- at first the root alone has its distance
  pub spread_begins : IsOpen old root → (new : List (Option ℕ)) (level : List ℕ) → new ≡ set old root (Some 0) → level ≡ root ∷ []
      → IsSpreading Edge root old new 0 level
  spread_begins open' new level is level_is =
      subst (λ (d : List (Option ℕ)). IsSpreading Edge root old d 0 level) (sym is)
      (subst (λ (xs : List ℕ). IsSpreading Edge root old (set old root (Some 0)) 0 xs) (sym level_is) begun)
    where
      first : List (Option ℕ)
      first = set old root (Some 0)

      here : distance_of (set old root (Some 0)) root ≡ Some 0
      here = get_or-set_same old root (Some 0) None open'.0

      there : (k : ℕ) → (k ≡ root → ⊥) → distance_of (set old root (Some 0)) k ≡ distance_of old k
      there k other = get_or-set_other old root k (Some 0) None other

      -- what had no distance and has one now is the root
      new_root : (k m : ℕ) → distance_of old k ≡ None → distance_of (set old root (Some 0)) k ≡ Some m → (k ≡ root) × (m ≡ 0)
      new_root k m none some = elim (cases_eq k root) [
        | inl same ↦ (
          same,
          same_value (distance_of (set old root (Some 0)) k) m 0 some
              (subst (λ (y : ℕ). distance_of (set old root (Some 0)) y ≡ Some 0) (sym same) here),
        )
        | inr other ↦ absurd (none_or_some (distance_of old k) m none (sym (there k other) ∙ some))
      ]

      begun : IsSpreading Edge root old (set old root (Some 0)) 0 (root ∷ [])
      begun = record {
        size = length-set old root (Some 0);
        kept = λ k m some. elim (cases_eq k root) [
          | inl same ↦ absurd (none_or_some (distance_of old k) m (subst (λ (y : ℕ). distance_of old y ≡ None) (sym same) open'.1) some)
          | inr other ↦ there k other ∙ some
        ];
        at_root = here;
        zero_at_root = λ k none some. (new_root k 0 none some).0;
        next = λ k m none some. absurd (omega (arith, (new_root k (suc m) none some).1));
        most = λ k m none some. omega (arith, (new_root k m none some).1);
        in_level = λ k has. subst (λ (y : ℕ). distance_of (set old root (Some 0)) y ≡ Some 0) (only_one root k has) here;
        level_all = λ k none some. (0, omega arith, sym (new_root k 0 none some).0);
        before = λ k i m e none some less. absurd (omega (arith, less));
        room = let e = opened old root 0 open' in omega (arith, e, count_by-le-length (is_none {T = ℕ}) old);
      }

  -- one more level
  pub spread_goes_on : (mid new : List (Option ℕ)) (distance : ℕ) (level found : List ℕ) (Before : ℕ → Type 0)
      → ((k : ℕ) → Before k → (i : ℕ) × Contains level i × Edge k i) → ((k i : ℕ) → Contains level i → Edge k i → Before k)
      → ((k i : ℕ) → Edge k i → k < length old) → 0 < length level → IsSpreading Edge root old mid distance level
      → AreMarked Before (distance + 1) mid [] new found → IsSpreading Edge root old new (distance + 1) found
  spread_goes_on mid new distance level found Before leads led within some_level s a = record {
    size = a.size ∙ s.size;
    kept = λ k m some. a.kept k m (s.kept k m some);
    at_root = a.kept root 0 s.at_root;
    zero_at_root = λ k none some. elim (cases k 0 some) [
      | inl fresh ↦ absurd (omega (arith, fresh.0))
      | inr was ↦ s.zero_at_root k none was
    ];
    next = λ k m none some. elim (cases k (suc m) some) [
      | inl fresh ↦ (
          let to = leads k fresh.1 in
          let same : distance ≡ m = omega (arith, fresh.0) in
          (to.0, to.2, a.kept to.0 m (subst (λ (n : ℕ). distance_of mid to.0 ≡ Some n) same (s.in_level to.0 to.1)))
          )
      | inr was ↦ (let to = s.next k m none was in (to.0, to.1, a.kept to.0 m to.2))
    ];
    most = λ k m none some. most k m none some;
    in_level = λ k has. elim (a.only k has) [ inl nothing ↦ absurd (nothing_in [] k refl nothing) | inr now ↦ now.1 ];
    level_all = λ k none some. elim (cases k (distance + 1) some) [
      | inl fresh ↦ fresh.2
      | inr was ↦ absurd (omega (arith, s.most k (distance + 1) none was))
    ];
    before = before;
    room = omega (arith, a.count, s.room);
  }
    where
      -- what has a distance now got this one, or had it before
      cases : (k m : ℕ) → distance_of new k ≡ Some m → ((m ≡ distance + 1) × Before k × Contains found k) ⊎ (distance_of mid k ≡ Some m)
      cases k m some = elim (option_cases (distance_of mid k)) [
        | inl none ↦ inl (a.fresh k m none some)
        | inr was ↦ inr (was.1 ∙ (sym (a.kept k was.0 was.1) ∙ some))
      ]

      most : (k m : ℕ) → distance_of old k ≡ None → distance_of new k ≡ Some m → m ≤ distance + 1
      most k m none some = elim (cases k m some) [ inl fresh ↦ omega (arith, fresh.0) | inr was ↦ omega (arith, s.most k m none was) ]

      -- a node that leads to the level has a distance
      led_has : (k i m : ℕ) → Edge k i → m ≡ distance → Contains level i
          → IsSome (distance_of old k) ⊎ ((j : ℕ) × (distance_of new k ≡ Some j) × (j ≤ suc m))
      led_has k i m e is has =
          let short : k < length mid = let l = within k i e in omega (arith, l, s.size) in
          let v = value_of (distance_of new k) (a.marked k (led k i has e) short) in
          elim (option_cases (distance_of old k)) [
            | inl none ↦ inr (v.0, v.1, omega (arith, most k v.0 none v.1, is))
            | inr some ↦ inl (is_some_of (distance_of old k) some.0 some.1)
          ]

      before : (k i m : ℕ) → Edge k i → distance_of old i ≡ None → distance_of new i ≡ Some m → m < distance + 1
          → IsSome (distance_of old k) ⊎ ((j : ℕ) × (distance_of new k ≡ Some j) × (j ≤ suc m))
      before k i m e none some less = elim (cases i m some) [
        | inl fresh ↦ absurd (omega (arith, fresh.0, less))
        | inr was ↦ elim (cases_lt m distance) [
          | inl lower ↦ elim (s.before k i m e none was lower) [
            | inl had ↦ inl had
            | inr h ↦ inr (h.0, a.kept k h.0 h.1, h.2)
          ]
          | inr past ↦ (
              let is : m ≡ distance = omega (arith, past, less) in
              led_has k i m e is (s.level_all i none (subst (λ (n : ℕ). distance_of mid i ≡ Some n) is was))
              )
        ]
      ]

  -- no node is left to go on from
  pub spread_ends : (new : List (Option ℕ)) (distance : ℕ) (level : List ℕ) → length level ≡ 0
      → IsSpreading Edge root old new distance level → IsSpread Edge root old new
  spread_ends new distance level none s = record {
    size = s.size;
    kept = s.kept;
    at_root = s.at_root;
    zero_at_root = s.zero_at_root;
    next = s.next;
    before = λ k i m e open' some. elim (cases_lt m distance) [
      | inl lower ↦ s.before k i m e open' some lower
      | inr past ↦ (
          let is : m ≡ distance = omega (arith, past, s.most i m open' some) in
          let has : Contains level i = s.level_all i open' (subst (λ (n : ℕ). distance_of new i ≡ Some n) is some) in
          absurd (omega (arith, none, has.1))
          )
    ];
  }

  -- Each node that leads to one with a distance has one.
  pub closed_more : (new : List (Option ℕ)) → IsSpread Edge root old new
      → ((k i : ℕ) → Edge k i → IsSome (distance_of old i) → IsSome (distance_of old k)) → (k i : ℕ) → Edge k i
      → IsSome (distance_of new i) → IsSome (distance_of new k)
  closed_more new s closed k i e has = elim (option_cases (distance_of old i)) [
    | inl none ↦ (
        let v = value_of (distance_of new i) has in
        elim (s.before k i v.0 e none v.1) [
          | inl had ↦ (let w = value_of (distance_of old k) had in is_some_of (distance_of new k) w.0 (s.kept k w.0 w.1))
          | inr h ↦ is_some_of (distance_of new k) h.0 h.1
        ]
        )
    | inr some ↦ (
        let w = value_of (distance_of old k) (closed k i e (is_some_of (distance_of old i) some.0 some.1)) in
        is_some_of (distance_of new k) w.0 (s.kept k w.0 w.1)
        )
  ]

  -- where no node had a distance, they are the distances to the root
  pub spread_alone : (new : List (Option ℕ)) → ((k : ℕ) → distance_of old k ≡ None) → IsSpread Edge root old new
      → AreDistances Edge root new
  spread_alone new none s = record {
    at_root = s.at_root;
    zero_at_root = λ k. s.zero_at_root k (none k);
    next = λ k m. s.next k m (none k);
    before = λ k i m e some. elim (s.before k i m e (none i) some) [
      | inl had ↦ (let v = value_of (distance_of old k) had in absurd (none_or_some (distance_of old k) v.0 (none k) v.1))
      | inr h ↦ h
    ];
  }

-- What reaches a node whose predecessors all have distances has one.
reaching_has : (Edge : ℕ → ℕ → Type 0) (d : List (Option ℕ)) (root : ℕ)
    → ((k i : ℕ) → Edge k i → IsSome (distance_of d i) → IsSome (distance_of d k))
    → ((k : ℕ) → Edge k root → IsSome (distance_of d k)) → (k j : ℕ) → j ≡ root → Reaches Edge k j → IsSome (distance_of d k)
reaching_has Edge d root closed all k j is (once a b e) = all k (subst (Edge k) is e)
reaching_has Edge d root closed all k j is (further a i b e more) = closed k i e (reaching_has Edge d root closed all i j is more)

-- a node that has no distance while its predecessors have is on no cycle
pub on_no_cycle : (Edge : ℕ → ℕ → Type 0) (d : List (Option ℕ)) (root : ℕ)
    → ((k i : ℕ) → Edge k i → IsSome (distance_of d i) → IsSome (distance_of d k))
    → ((k : ℕ) → Edge k root → IsSome (distance_of d k)) → IsOpen d root → Reaches Edge root root → ⊥
on_no_cycle Edge d root closed all open' reaches = let v =
    value_of (distance_of d root) (reaching_has Edge d root closed all root root refl reaches) in
    none_or_some (distance_of d root) v.0 open'.1 v.1

-- the distances along reversed edges are those along the edges of the graph
pub distances_reversed : (graph reversed : Graph) (root : ℕ) (d : List (Option ℕ)) → IsReverse graph reversed
    → length d ≡ length graph → AreDistances (Backward reversed) root d → AreDistances (EdgeOf graph) root d
distances_reversed graph reversed root d r size a = record {
  at_root = a.at_root;
  zero_at_root = a.zero_at_root;
  next = λ k m some. let to = a.next k m some in (to.0, ((r.edges k to.0).0 to.1).0, to.2);
  before = λ k i m e some. a.before k i m ((r.edges k i).1
      (e, let less : i < length d = distance_within d i m some in omega (arith, less, size))) some;
}
