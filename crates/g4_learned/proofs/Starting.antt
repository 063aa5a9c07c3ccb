-- The starts of a network's decisions, and how one is found.
use Rattle.std.proofs.Common.{◌≡◌, ◌≤◌, ◌<◌, ◌⊎◌, inl, inr, ℕ, zero, suc, ◌+◌, ◌-◌, ◌^◌, List, [], ◌∷◌, ◌++◌, Option, Some, None, Contains, length, map, take, get_or, slice_get, slice_index, length-append, refl, sym, ◌∙◌, ap, subst, arith}
use Rattle.std.proofs.lemmas.List.{length-take-le, take_all, take_more}
use Rattle.std.proofs.lemmas.Option.{slice_get-get_or, slice_get_within, get_or_from_slice_get}
use Rattle.std.specs.List.Sorted.{IsStrictlyIncreasing}
use Rattle.g4_net.specs.declared.network.State.{State}
use Rattle.g4_net.specs.declared.network.State.TheVariants.{Decision, End, Edge, Call, Predicate, Level, Action, Empty}
use Rattle.g4_net.specs.Network.{ParserNetwork, state_at}
use Rattle.g4_guards.specs.Levels.{IsCondition, IsDecision, IsGuard}
use Rattle.g4_guards.specs.Tests.{HasTests}
use Rattle.g4_guards.specs.declared.tests.Tests.{Tests}
use Rattle.g4_learned.specs.Guards.{AreGuards, AreGuardsOf}
use Rattle.g4_learned.specs.Tables.{AreKeys, AreStarts, HasFewAlternatives, keys_from, places_from}
use Rattle.g4_learned.proofs.Rising.{guards_fit, guards_from_0, guards_may, guards_rise, last_guard}
use Rattle.g4_learned.proofs.Placing.{IsKeyAt, before, count_keys, get_cases, get_left, get_right, high_at, key_at, key_from, keys_more, length_keys, low_at, places_more, rising, total}

cases_le : (m n : ℕ) → (m ≤ n) ⊎ (n < m)
cases_le m n = grind arith

-- what is read at a place is in the list
read_in : (ls : List ℕ) (m l : ℕ) → slice_get ls m ≡ Some l → Contains ls l
read_in ls m l at = (m, slice_get_within ls m l at, get_or_from_slice_get ls m l l at)

read_zero : (ls : List ℕ) (n x : ℕ) → n < length ls → get_or ls n x ≡ x → slice_index ls n ≡ x
read_zero ls n x less is = get_or_from_slice_get ls n x 0 (slice_get-get_or ls n x less ∙ ap Some is)

-- a state that has guards is a decision
record IsDeciding (net : ParserNetwork) (d : ℕ) (s : State (List ℕ)) (ls : List ℕ) : Type 0 where
  pub targets : List ℕ
  pub is : s ≡ Decision targets
  pub guards : AreGuards net d targets ls

none_there : (ls : List ℕ) (m l : ℕ) → ls ≡ [] → slice_get ls m ≡ Some l → ⊥
none_there ls m l none at = let less = slice_get_within ls m l at in let n = ap length none in omega (arith, less, n)

deciding : (net : ParserNetwork) (d : ℕ) (s : State (List ℕ)) (ls : List ℕ) (m l : ℕ) → AreGuardsOf net d s ls
    → slice_get ls m ≡ Some l → IsDeciding net d s ls
deciding net d (Decision targets) ls m l h at = record { targets = targets; is = refl; guards = h.0 }
deciding net d (End rule) ls m l h at = absurd (none_there ls m l h at)
deciding net d (Edge set t) ls m l h at = absurd (none_there ls m l h at)
deciding net d (Call rule level back) ls m l h at = absurd (none_there ls m l h at)
deciding net d (Predicate k t) ls m l h at = absurd (none_there ls m l h at)
deciding net d (Level q t) ls m l h at = absurd (none_there ls m l h at)
deciding net d (Action t) ls m l h at = absurd (none_there ls m l h at)
deciding net d (Empty t) ls m l h at = absurd (none_there ls m l h at)

-- two places of numbers that rise have two numbers
below : (xs : List ℕ) (p q : ℕ) → IsStrictlyIncreasing xs → p < q → q < length xs → slice_index xs p < slice_index xs q
below xs p q up lt less =
    let step = up p (omega (arith, lt, less)) in
    let e : p + 1 + (q - (p + 1)) ≡ q = omega (arith, lt) in
    let on : slice_index xs (p + 1) ≤ slice_index xs q = subst (λ (m : ℕ). slice_index xs (p + 1) ≤ slice_index xs m) e
    (rising xs (p + 1) (q - (p + 1)) up (omega (arith, e, less))) in
    omega (arith, step, on)

one_place : (xs : List ℕ) (p q l : ℕ) → IsStrictlyIncreasing xs → slice_get xs p ≡ Some l → slice_get xs q ≡ Some l → p ≡ q
one_place xs p q l up at at' = by (let c : (p < q) ⊎ ((q < p) ⊎ (p ≡ q)) = grind arith in c)
  where
    is : slice_index xs p ≡ l
    is = get_or_from_slice_get xs p l 0 at

    is' : slice_index xs q ≡ l
    is' = get_or_from_slice_get xs q l 0 at'

    by : (p < q) ⊎ ((q < p) ⊎ (p ≡ q)) → p ≡ q
    by (inl lt) = let b = below xs p q up lt (slice_get_within xs q l at') in absurd (omega (arith, b, is, is'))
    by (inr (inl gt)) = let b = below xs q p up gt (slice_get_within xs p l at) in absurd (omega (arith, b, is, is'))
    by (inr (inr e)) = e

module _ (net : ParserNetwork) (first : List ℕ) (keys : List (ℕ × ℕ)) (k : AreKeys net net.states first keys) where
  -- the guards of a state
  record HasGuards (d : ℕ) (guards : List ℕ) : Type 0 where
    pub has : slice_get k.all d ≡ Some guards
    pub targets : List ℕ
    pub at : state_at net d ≡ Some (Decision targets)
    pub are : AreGuards net d targets guards

  -- those of the state of a key
  guards_at : (i d l : ℕ) (a : IsKeyAt k.all 0 i d l) → HasGuards d a.levels
  guards_at i d l a =
      let n = a.is_state in
      let d_is : a.state ≡ d = omega (arith, n) in
      let inside = slice_get_within k.all a.state a.levels a.has in
      let s : State (List ℕ) = get_or net.states a.state (Empty 0) in
      let count = k.guards.count in
      let at_s : slice_get net.states a.state ≡ Some s = slice_get-get_or net.states a.state (Empty 0) (omega (arith, inside, count)) in
      let each = k.guards.each a.state s at_s in
      let same : each.0 ≡ a.levels = let h = each.1 in let g = a.has in cc in
      let of : AreGuardsOf net a.state s a.levels = subst (AreGuardsOf net a.state s) same each.2 in
      let w = deciding net a.state s a.levels a.place l of a.at in
      record {
        has = subst (λ (x : ℕ). slice_get k.all x ≡ Some a.levels) d_is a.has;
        targets = w.targets;
        at = subst (λ (x : ℕ). state_at net x ≡ Some (Decision w.targets)) d_is (at_s ∙ ap Some w.is);
        are = subst (λ (x : ℕ). AreGuards net x w.targets a.levels) d_is w.guards;
      }

  key_is : (i d l : ℕ) → slice_get keys i ≡ Some (d, l) → IsKeyAt k.all 0 i d l
  key_is i d l at = key_from k.all 0 i d l (subst (λ (ks : List (ℕ × ℕ)). slice_get ks i ≡ Some (d, l)) k.are at)

  -- few alternatives
  pub are_few : HasFewAlternatives net
  are_few d targets at = let each = k.guards.each d (Decision targets) at in each.2.1

  -- Where the starts of a decision are.
  pub record IsRange (d low : ℕ) (levels targets : List ℕ) : Type 0 where
    pub at : state_at net d ≡ Some (Decision targets)
    pub are : AreGuards net d targets levels
    pub first_low : slice_get first d ≡ Some low
    pub first_high : slice_get first (d + 1) ≡ Some (low + length levels)
    pub has : (m l : ℕ) → slice_get levels m ≡ Some l → slice_get keys (low + m) ≡ Some (d, l)

  pub range_of : (d : ℕ) → IsDecision net d → (low : ℕ) × (levels : List ℕ) × (targets : List ℕ) × IsRange d low levels targets
  range_of d (targets, at) =
      let each = k.guards.each d (Decision targets) at in
      let levels = each.0 in
      let are = each.2.0 in (
        before k.all d,
        levels,
        targets,
        record {
          at = at;
          are = are;
          first_low = subst (λ (xs : List ℕ). slice_get xs d ≡ Some (before k.all d)) (sym k.places)
              (low_at k.all 0 d levels each.1 ∙ ap Some (let e : 0 + before k.all d ≡ before k.all d = omega arith in e));
          first_high = subst (λ (xs : List ℕ). slice_get xs (d + 1) ≡ Some (before k.all d + length levels)) (sym k.places)
              (subst (λ (x : ℕ). slice_get (places_from 0 k.all) x ≡ Some (before k.all d + length levels))
              (let e : suc d ≡ d + 1 = omega arith in e)
              (high_at k.all 0 d levels each.1
              ∙ ap Some (let e : 0 + before k.all d + length levels ≡ before k.all d + length levels = omega arith in e)));
          has = λ m l is. subst (λ (ks : List (ℕ × ℕ)). slice_get ks (before k.all d + m) ≡ Some (d, l)) (sym k.are)
              (key_at k.all 0 d m l levels each.1 is
              ∙ ap (λ (x : ℕ). let key : ℕ × ℕ = (x, l) in Some key) (let e : 0 + d ≡ d = omega arith in e));
        },
      )

  module _ (d low : ℕ) (levels targets : List ℕ) (r : IsRange d low levels targets) where
    -- what is read at a place of the range
    level_there : (m : ℕ) → m < length levels → slice_get keys (low + m) ≡ Some (d, slice_index levels m)
    level_there m less = r.has m (slice_index levels m) (slice_get-get_or levels m 0 less)

    pub level_read : (m : ℕ) → m < length levels → (get_or keys (low + m) (0, 0)).1 ≡ slice_index levels m
    level_read m less =
        ap (λ (x : ℕ × ℕ). x.1) (get_or_from_slice_get keys (low + m) (d, slice_index levels m) (0, 0) (level_there m less))

    -- where there is a condition, the range has a start
    pub some_there : (n : ℕ) → IsCondition net d n → 0 < length levels
    some_there n may = let (at, less, is) = guards_from_0 net d targets levels r.at r.are n may in omega (arith, less)

    -- the range is within the keys
    pub range_within : 0 < length levels → low + length levels ≤ length keys
    range_within s =
        let m : ℕ = length levels - 1 in
        let w = slice_get_within keys (low + m) (d, slice_index levels m) (level_there m (omega (arith, s))) in
        omega (arith, w, s)

    -- its first guard is 0
    pub first_none : (n : ℕ) → IsCondition net d n → (get_or keys low (0, 0)).1 ≡ 0
    first_none n may =
        let (at, less, is) = guards_from_0 net d targets levels r.at r.are n may in
        let up = rising levels 0 at (guards_rise net d targets levels r.at r.are) (omega (arith, less)) in
        let e : 0 + at ≡ at = omega arith in
        let last : slice_index levels (0 + at) ≡ 0 = subst (λ (x : ℕ). slice_index levels x ≡ 0) (sym e) is in
        let read = level_read 0 (some_there n may) in
        let f : low + 0 ≡ low = omega arith in
        let read' : (get_or keys low (0, 0)).1 ≡ slice_index levels 0 =
        subst (λ (x : ℕ). (get_or keys x (0, 0)).1 ≡ slice_index levels 0) f read in
        omega (arith, up, last, read')

    -- the last one that is not above a condition is its guard
    pub found_guard : (at level : ℕ) → IsCondition net d level → level < 2 ^ 32 → low ≤ at → at < low + length levels
        → (get_or keys at (0, 0)).1 ≤ level
        → (at + 1 < low + length levels → level < (get_or keys (at + 1) (0, 0)).1)
        → (guard : ℕ) × (slice_get keys at ≡ Some (d, guard)) × IsGuard net d level guard
    found_guard at level may fits from to le next =
        let m : ℕ = at - low in
        let e : low + m ≡ at = omega (arith, from) in
        let less : m < length levels = omega (arith, from, to) in
        let l = slice_index levels m in
        let there : slice_get keys at ≡ Some (d, l) = subst (λ (x : ℕ). slice_get keys x ≡ Some (d, l)) e (level_there m less) in
        let read : (get_or keys at (0, 0)).1 ≡ l = ap (λ (x : ℕ × ℕ). x.1) (get_or_from_slice_get keys at (d, l) (0, 0) there) in
        let low_enough : l ≤ level = omega (arith, read, le) in (
          l,
          there,
          last_guard net d targets levels r.at r.are l level may fits
              (read_in levels m l (slice_get-get_or levels m 0 less)) low_enough (greatest m less e low_enough),
        )
      where
        greatest : (m : ℕ) → m < length levels → low + m ≡ at → slice_index levels m ≤ level → (x : ℕ) → Contains levels x → x ≤ level
            → x ≤ slice_index levels m
        greatest m less e low_enough x (n, less', is) x_le = by (let c : (n ≤ m) ⊎ (m < n) = grind arith in c)
          where
            is_x : slice_index levels n ≡ x
            is_x = read_zero levels n x less' is

            by : (n ≤ m) ⊎ (m < n) → x ≤ slice_index levels m
            by (inl before_m) =
                let up = rising levels n (m - n) (guards_rise net d targets levels r.at r.are) (omega (arith, before_m, less)) in
                let f : n + (m - n) ≡ m = omega (arith, before_m) in
                let up' : slice_index levels n ≤ slice_index levels m =
                subst (λ (y : ℕ). slice_index levels n ≤ slice_index levels y) f up in
                omega (arith, up', is_x)
            by (inr after_m) =
                let inside : m + 1 < length levels = omega (arith, after_m, less') in
                let over = next (omega (arith, inside, e)) in
                let f : low + (m + 1) ≡ at + 1 = omega (arith, e) in
                let read' = level_read (m + 1) inside in
                let over' : level < slice_index levels (m + 1) =
                (let g = ap (λ (y : ℕ). (get_or keys y (0, 0)).1) f in omega (arith, over, read', g)) in
                let up = rising levels (m + 1) (n - (m + 1)) (guards_rise net d targets levels r.at r.are) (omega
                (arith, after_m, less')) in
                let h : m + 1 + (n - (m + 1)) ≡ n = omega (arith, after_m) in
                let up' : slice_index levels (m + 1) ≤ slice_index levels n =
                subst (λ (y : ℕ). slice_index levels (m + 1) ≤ slice_index levels y) h up in
                absurd (omega (arith, over', up', is_x, x_le))

    -- from a place of the range on, whose guard is not above, there is the last such place
    last_from : (k at level : ℕ) → IsCondition net d level → level < 2 ^ 32 → low ≤ at → at + suc k ≡ low + length levels
        → (get_or keys at (0, 0)).1 ≤ level
        → (i guard : ℕ) × (slice_get keys i ≡ Some (d, guard)) × IsGuard net d level guard
    last_from zero at level may fits from to le =
        let inside : at < low + length levels = omega (arith, to) in
        let found = found_guard at level may fits from inside le (λ more. absurd (omega (arith, to, more))) in
        (at, found.0, found.1, found.2)
    last_from (suc k) at level may fits from to le =
        by (last_from k (at + 1) level may fits (omega (arith, from)) (omega (arith, to))) (cases_le next level)
      where
        next : ℕ
        next = (get_or keys (at + 1) (0, 0)).1

        by : (next ≤ level → (i guard : ℕ) × (slice_get keys i ≡ Some (d, guard)) × IsGuard net d level guard)
            → (next ≤ level) ⊎ (level < next) → (i guard : ℕ) × (slice_get keys i ≡ Some (d, guard)) × IsGuard net d level guard
        by on (inl more) = on more
        by on (inr above) =
            let found = found_guard at level may fits from (omega (arith, to)) le (λ _. above) in (at, found.0, found.1, found.2)

    pub start_there : (level : ℕ) → IsCondition net d level → level < 2 ^ 32 → (i guard : ℕ) × (slice_get keys i ≡ Some (d, guard))
        × IsGuard net d level guard
    start_there level may fits =
        let some = some_there level may in
        let none = first_none level may in
        last_from (length levels - 1) low level may fits (omega arith) (omega (arith, some)) (omega (arith, none))

  -- one start for each decision and each of its guards
  pub are_starts : AreStarts net keys
  are_starts = record {
    there = λ d level decides may fits. let range = range_of d decides in
        start_there d range.0 range.1 range.2 range.3 level may fits;
    guards = λ i d guard at.
        let a = key_is i d guard at in
        let h = guards_at i d guard a in
        let c = read_in a.levels a.place guard a.at in (
          (h.targets, h.at),
          guards_may net d h.targets a.levels h.at h.are guard c,
          last_guard net d h.targets a.levels h.at h.are guard guard (guards_may net d h.targets a.levels h.at h.are guard c)
              (guards_fit net d h.targets a.levels h.at h.are guard c) c (omega arith) (λ l has le. le),
        );
    fits = λ i d guard at.
        let a = key_is i d guard at in
        let h = guards_at i d guard a in
        guards_fit net d h.targets a.levels h.at h.are guard (read_in a.levels a.place guard a.at);
    once = λ i j d guard at at'.
        let a = key_is i d guard at in
        let b = key_is j d guard at' in
        let h = guards_at i d guard a in
        let g = guards_at j d guard b in
        let same : a.levels ≡ b.levels = let x = h.has in let y = g.has in cc in
        let placed : slice_get a.levels b.place ≡ Some guard =
        subst (λ (xs : List ℕ). slice_get xs b.place ≡ Some guard) (sym same) b.at in
        let place = one_place a.levels a.place b.place guard (guards_rise net d h.targets a.levels h.at h.are) a.at placed in
        let s = a.is_state in
        let s' = b.is_state in
        let state : a.state ≡ b.state = omega (arith, s, s') in
        let p = a.is_place in
        let q = b.is_place in
        let f = ap (before k.all) state in
        omega (arith, p, q, f, place);
  }

-- at first there is no state
pub keys_none : (net : ParserNetwork) (first : List ℕ) (keys : List (ℕ × ℕ)) → first ≡ 0 ∷ [] → keys ≡ [] → AreKeys net [] first keys
keys_none net first keys at none = record {
  all = [];
  guards = record { count = refl; each = λ d s is. absurd (let e : Path (Option (State (List ℕ))) None (Some s) = is in cc) };
  places = at;
  are = none;
}

-- and then one state more
pub keys_next : (net : ParserNetwork) (states : List (State (List ℕ))) (s : State (List ℕ)) (first first' : List ℕ)
    (keys keys' : List (ℕ × ℕ)) (ls : List ℕ) → AreKeys net states first keys → AreGuardsOf net (length states) s ls
    → keys' ≡ keys ++ map (λ (l : ℕ). let key : ℕ × ℕ = (length states, l) in key) ls → first' ≡ first ++ length keys' ∷ []
    → AreKeys net (states ++ s ∷ []) first' keys'
keys_next net states s first first' keys keys' ls k of keys_are first_is = record {
  all = k.all ++ ls ∷ [];
  guards = record {
    count = (let a = length-append k.all (ls ∷ []) in let b = length-append states (s ∷ []) in let c = k.guards.count in
        omega (arith, a, b, c));
    each = λ d s' is. elim (get_cases states (s ∷ []) d s' is) [
      | inl left ↦ (let e = k.guards.each d s' left in (e.0, get_left k.all (ls ∷ []) d e.0 e.1, e.2))
      | inr right ↦ last d right.0 s' right.1 right.2
    ];
  };
  places = first_is ∙ ap (λ (xs : List ℕ). xs ++ length keys' ∷ []) k.places
      ∙ ap (λ (n : ℕ). places_from 0 k.all ++ n ∷ []) count ∙ sym (places_more 0 k.all ls);
  are = keys_are ∙ ap (λ (xs : List (ℕ × ℕ)). xs ++ map (λ (l : ℕ). let key : ℕ × ℕ = (length states, l) in key) ls) k.are
      ∙ ap (λ (n : ℕ). keys_from 0 k.all ++ map (λ (l : ℕ). let key : ℕ × ℕ = (n, l) in key) ls)
      (let c = k.guards.count in let e : length states ≡ 0 + length k.all = omega (arith, c) in e) ∙ sym (keys_more 0 k.all ls);
}
  where
    count : length keys' ≡ 0 + total k.all + length ls
    count =
        let a = ap length keys_are in
        let b = length-append keys (map (λ (l : ℕ). let key : ℕ × ℕ = (length states, l) in key) ls) in
        let c = length_keys (length states) ls in
        let e = ap length k.are in
        let f = count_keys 0 k.all in
        omega (arith, a, b, c, e, f)

    last : (d m : ℕ) (s' : State (List ℕ)) → d ≡ length states + m → slice_get (s ∷ []) m ≡ Some s'
        → (levels : List ℕ) × (slice_get (k.all ++ ls ∷ []) d ≡ Some levels) × AreGuardsOf net d s' levels
    last d zero s' is at =
        let same : s ≡ s' = cc in
        let c = k.guards.count in
        let e : length k.all + 0 ≡ d = omega (arith, is, c) in (
          ls,
          subst (λ (x : ℕ). slice_get (k.all ++ ls ∷ []) x ≡ Some ls) e (get_right k.all (ls ∷ []) 0 ls refl),
          subst (λ (x : ℕ). AreGuardsOf net x s' ls) (let e' : length states ≡ d = omega (arith, is) in e')
              (subst (λ (x : State (List ℕ)). AreGuardsOf net (length states) x ls) same of),
        )
    last d (suc m) s' is at = absurd (let e : Path (Option (State (List ℕ))) None (Some s') = at in cc)

-- the same for the state at a place
pub keys_more_state : (net : ParserNetwork) (states : List (State (List ℕ))) (k : ℕ) (s : State (List ℕ)) (first first' : List ℕ)
    (keys keys' : List (ℕ × ℕ)) (ls : List ℕ) → k < length states → s ≡ get_or states k s → AreKeys net (take k states) first keys
    → AreGuardsOf net k s ls → keys' ≡ keys ++ map (λ (l : ℕ). let key : ℕ × ℕ = (k, l) in key) ls
    → first' ≡ first ++ length keys' ∷ [] → AreKeys net (take (k + 1) states) first' keys'
keys_more_state net states k s first first' keys keys' ls less at h of keys_are first_is =
    let n : length (take k states) ≡ k = length-take-le k states (omega (arith, less)) in
    let more : take (k + 1) states ≡ take k states ++ s ∷ [] =
    take_more states k s less ∙ ap (λ (x : State (List ℕ)). take k states ++ x ∷ []) (sym at) in
    subst (λ (ss : List (State (List ℕ))). AreKeys net ss first' keys') (sym more)
    (keys_next net (take k states) s first first' keys keys' ls h
    (subst (λ (m : ℕ). AreGuardsOf net m s ls) (sym n) of)
    (keys_are ∙ ap (λ (m : ℕ). keys ++ map (λ (l : ℕ). let key : ℕ × ℕ = (m, l) in key) ls) (sym n)) first_is)

-- and in the end for all
pub keys_all : (net : ParserNetwork) (states : List (State (List ℕ))) (k : ℕ) (first : List ℕ) (keys : List (ℕ × ℕ))
    → length states ≤ k → AreKeys net (take k states) first keys → AreKeys net states first keys
keys_all net states k first keys past h =
    subst (λ (ss : List (State (List ℕ))). AreKeys net ss first keys) (take_all k states past) h

-- What the alternatives of the first states begin with, as many as this.
pub record HaveTests (net : ParserNetwork) (n : ℕ) (tests : List Tests) : Type 0 where
  pub count : length tests ≡ n
  pub each : (d : ℕ) (found : Tests) → slice_get tests d ≡ Some found → HasTests net d found

pub tests_none : (net : ParserNetwork) (tests : List Tests) → tests ≡ [] → HaveTests net 0 tests
tests_none net tests is = record { count = ap length is; each = λ d found at. absurd (none d found at) }
  where
    none : (d : ℕ) (found : Tests) → slice_get tests d ≡ Some found → ⊥
    none d found at = let less = slice_get_within tests d found at in let e = ap length is in omega (arith, less, e)

pub tests_more : (net : ParserNetwork) (n : ℕ) (old new : List Tests) (found : Tests) → HaveTests net n old → HasTests net n found
    → new ≡ old ++ found ∷ [] → HaveTests net (n + 1) new
tests_more net n old new found have has is = record {
  count = (let a = ap length is in let b = length-append old (found ∷ []) in let c = have.count in omega (arith, a, b, c));
  each = λ d other at. by d other (get_cases old (found ∷ []) d other (subst (λ (ts : List Tests). slice_get ts d ≡ Some other) is at));
}
  where
    last : (d m : ℕ) (other : Tests) → d ≡ length old + m → slice_get (found ∷ []) m ≡ Some other → HasTests net d other
    last d zero other e at =
        let same : found ≡ other = cc in
        let c = have.count in
        let here : n ≡ d = omega (arith, e, c) in
        subst (λ (x : ℕ). HasTests net x other) here (subst (λ (t : Tests). HasTests net n t) same has)
    last d (suc m) other e at = absurd (let none : Path (Option Tests) None (Some other) = at in cc)

    by : (d : ℕ) (other : Tests) → (slice_get old d ≡ Some other) ⊎ ((m : ℕ) × (d ≡ length old + m)
        × (slice_get (found ∷ []) m ≡ Some other))
        → HasTests net d other
    by d other (inl left) = have.each d other left
    by d other (inr right) = last d right.0 other right.1 right.2
