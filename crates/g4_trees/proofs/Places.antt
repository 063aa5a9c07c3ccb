-- Reading a grown tree back from its last entry.
use Rattle.std.proofs.Common.{◌≡◌, ◌-◌, ◌<◌, ◌≤◌, ◌++◌, ◌∷◌, [], ℕ, zero, suc, List, length, map, reverse, take, drop, get_or, ◌⊎◌, inl, inr, refl, sym, ◌∙◌, ap, subst, arith, drop-cons, length-drop}
use Rattle.std.specs.Prelude.{Some, None}
use Rattle.g4_trees.specs.declared.tree.Item.{Item}
use Rattle.g4_trees.specs.Kept.{kept, wrap, entries_from, AreOrdered}
use Rattle.g4_trees.specs.Ends.{IsWrapAt}
use Rattle.g4_trees.specs.Unwinding.{Known, known, known_before, HasUnwound, HasRead}
use Rattle.g4_trees.specs.declared.builder.Wrap.{Wrap}
use Rattle.g4_trees.specs.declared.unwinding.Unwound.{Unwound}
use Rattle.g4_trees.proofs.Entries.{kept_first, wrap_first, ordered_front, ordered_more, ordered_from}

-- a list is empty or has a last item
last_or_none : (ws : List Wrap) → (ws ≡ []) ⊎ ((front : List Wrap) × (w : Wrap) × (ws ≡ front ++ w ∷ []))
last_or_none [] = inl refl
last_or_none (w ∷ ws) = elim (last_or_none ws) [
  | inl e ↦ inr ([], w, ap (λ (vs : List Wrap). w ∷ vs) e)
  | inr (front, v, e) ↦ inr (w ∷ front, v, ap (λ (vs : List Wrap). w ∷ vs) e)
]

-- where the last wrap is not at the place, all are before it
before_place : (place : ℕ) (ws : List Wrap) → AreOrdered 0 ws (suc place) → IsWrapAt ws place None → AreOrdered 0 ws place
before_place place ws h other = elim (last_or_none ws) [
  | inl e ↦ subst (λ (vs : List Wrap). AreOrdered 0 vs place) (sym e) tt
  | inr (front, w, e) ↦
      let parts = ordered_front 0 (suc place) front w (subst (λ (vs : List Wrap). AreOrdered 0 vs (suc place)) e h) in
      let elsewhere = other front w e in
      let high = parts.2 in
      subst (λ (vs : List Wrap). AreOrdered 0 vs place) (sym e)
      (ordered_more 0 w.end place front w parts.0 (omega arith) (omega arith) (grind arith))
]

-- an item that is no wrap
pub read_item : (xs : List Item) (wraps : List Wrap) (place rest : ℕ) (x d : Item) (u v : Unwound) → place < length xs
    → x ≡ get_or xs place d → HasRead xs wraps (suc place) rest u → IsWrapAt (take rest wraps) place None
    → ((k : Known) → HasUnwound u k → HasUnwound v (known_before (kept x) k)) → HasRead xs wraps place rest v
read_item xs wraps place rest x d u v within is h other step =
    let next : drop place xs ≡ x ∷ drop (suc place) xs =
    drop-cons xs place d within ∙ ap (λ (y : Item). y ∷ drop (suc place) xs) (sym is) in
    record {
      before = before_place place (take rest wraps) h.before other;
      after = ordered_from place (suc place) (length xs) (drop rest wraps) (omega arith) h.after;
      unwound = subst (λ (k : Known). HasUnwound v k)
          (sym (ap (λ (ys : List Item). known (entries_from place ys (drop rest wraps))) next
          ∙ ap known (kept_first place (length xs) x (drop (suc place) xs) (drop rest wraps) h.after)))
          (step (known (entries_from (suc place) (drop (suc place) xs) (drop rest wraps))) h.unwound);
    }

-- the wraps up to the last of some
last_taken : (ws front : List Wrap) (w : Wrap) (r : ℕ) → take (suc r) ws ≡ front ++ w ∷ [] → suc r ≤ length ws
    → (take r ws ≡ front) × (drop r ws ≡ w ∷ drop (suc r) ws)
last_taken [] front w r e le = absurd (omega arith)
last_taken (v ∷ ws) [] w zero e le = let same : v ≡ w = cc in (refl, ap (λ (y : Wrap). y ∷ ws) same)
last_taken (v ∷ []) [] w (suc r) e le = absurd (omega arith)
last_taken (v ∷ u ∷ ws) [] w (suc r) e le = absurd (let n : ⊥ = cc in n)
last_taken (v ∷ ws) (f ∷ []) w zero e le = absurd (let n : ⊥ = cc in n)
last_taken (v ∷ ws) (f ∷ g ∷ front) w zero e le = absurd (let n : ⊥ = cc in n)
last_taken (v ∷ ws) (f ∷ front) w (suc r) e le =
    let tail : take (suc r) ws ≡ front ++ w ∷ [] = cc in
    let first : v ≡ f = cc in
    let more = last_taken ws front w r tail (omega arith) in
    (ap (λ (vs : List Wrap). v ∷ vs) more.0 ∙ ap (λ (y : Wrap). y ∷ front) first, more.1)

-- what is left after the first of what is left
drop_tail : (k : ℕ) (xs : List Item) (y : Item) (ys : List Item) → drop k xs ≡ y ∷ ys → drop (suc k) xs ≡ ys
drop_tail zero [] y ys e = absurd (let n : ⊥ = cc in n)
drop_tail zero (x ∷ xs) y ys e = cc
drop_tail (suc k) [] y ys e = absurd (let n : ⊥ = cc in n)
drop_tail (suc k) (x ∷ xs) y ys e = drop_tail k xs y ys e

-- the end of a node that became a first child
read_one : (xs : List Item) (wraps : List Wrap) (place r alt : ℕ) (u v : Unwound) → place < length xs → suc r ≤ length wraps
    → HasRead xs wraps (suc place) (suc r) u → IsWrapAt (take (suc r) wraps) place (Some alt)
    → ((k : Known) → HasUnwound u k → HasUnwound v (known_before (wrap alt) k)) → HasRead xs wraps place r v
read_one xs wraps place r alt u v within few h (front, e) step =
    by (drop place xs) refl (last_taken wraps front (record { end = place; alt = alt }) r e few)
    (ordered_front 0 (suc place) front (record { end = place; alt = alt })
    (subst (λ (vs : List Wrap). AreOrdered 0 vs (suc place)) e h.before))
  where
    by : (ys : List Item) → drop place xs ≡ ys → (take r wraps ≡ front)
        × (drop r wraps ≡ record { end = place; alt = alt } ∷ drop (suc r) wraps)
        → AreOrdered 0 front place × (0 ≤ place) × (place < suc place) → HasRead xs wraps place r v
    by [] is parts ordered = absurd (omega (arith, ap length is, length-drop place xs))
    by (y ∷ ys) is parts ordered =
        let later : drop (suc place) xs ≡ ys = drop_tail place xs y ys is in
        let known_so : known (entries_from place (drop place xs) (drop r wraps))
        ≡ known_before (wrap alt) (known (entries_from (suc place) (drop (suc place) xs) (drop (suc r) wraps))) =
        ap (λ (zs : List Item). known (entries_from place zs (drop r wraps))) is
        ∙ ap (λ (vs : List Wrap). known (entries_from place (y ∷ ys) vs)) parts.1
        ∙ ap known (wrap_first place y ys (record { end = place; alt = alt }) (drop (suc r) wraps) refl) ∙
        ap (λ (zs : List Item). known_before (wrap alt) (known (entries_from (suc place) zs (drop (suc r) wraps)))) (sym later) in
        record {
          before = subst (λ (vs : List Wrap). AreOrdered 0 vs place) (sym parts.0) ordered.0;
          after = subst (λ (vs : List Wrap). AreOrdered place vs (length xs)) (sym parts.1) (omega arith, within, h.after);
          unwound = subst (λ (k : Known). HasUnwound v k) (sym known_so)
              (step (known (entries_from (suc place) (drop (suc place) xs) (drop (suc r) wraps))) h.unwound);
        }

no_wrap_of_none : (wraps : List Wrap) (place alt : ℕ) → IsWrapAt (take 0 wraps) place (Some alt) → ⊥
no_wrap_of_none wraps place alt ([], e) = cc
no_wrap_of_none wraps place alt (f ∷ front, e) = cc

pub read_wrap : (xs : List Item) (wraps : List Wrap) (place rest alt : ℕ) (u v : Unwound) → place < length xs → rest ≤ length wraps
    → HasRead xs wraps (suc place) rest u → IsWrapAt (take rest wraps) place (Some alt)
    → ((k : Known) → HasUnwound u k → HasUnwound v (known_before (wrap alt) k)) → HasRead xs wraps place (rest - 1) v
read_wrap xs wraps place zero alt u v within few h at step = absurd (no_wrap_of_none wraps place alt at)
read_wrap xs wraps place (suc r) alt u v within few h at step = let same : r ≡ suc r - 1 = omega arith in
    subst (λ (k : ℕ). HasRead xs wraps place k v) same (read_one xs wraps place r alt u v within few h at step)

-- the beginning: nothing is read
pub nothing_read : (xs : List Item) (wraps : List Wrap) (u : Unwound) → u.pending.items ≡ [] → u.out.items ≡ []
    → AreOrdered 0 wraps (length xs) → HasRead xs wraps (length xs) (length wraps) u
nothing_read xs wraps u pending out h =
    let all_wraps : take (length wraps) wraps ≡ wraps = take_all wraps in
    let no_wraps : drop (length wraps) wraps ≡ [] = drop_all wraps in
    let no_items : drop (length xs) xs ≡ [] = drop_all xs in
    record {
      before = subst (λ (vs : List Wrap). AreOrdered 0 vs (length xs)) (sym all_wraps) h;
      after = subst (λ (vs : List Wrap). AreOrdered (length xs) vs (length xs)) (sym no_wraps) tt;
      unwound = subst (λ (ys : List Item). HasUnwound u (known (entries_from (length xs) ys (drop (length wraps) wraps))))
          (sym no_items) (record { pending = ap (λ (ps : List _). map (λ v. v.items) (reverse ps)) pending; out = ap reverse out });
    }
  where
    take_all : {A : Type 0} (ys : List A) → take (length ys) ys ≡ ys
    take_all [] = refl
    take_all (y ∷ ys) = ap (λ (zs : List _). y ∷ zs) (take_all ys)

    drop_all : {A : Type 0} (ys : List A) → drop (length ys) ys ≡ []
    drop_all [] = refl
    drop_all (y ∷ ys) = drop_all ys

-- the end: all is read
pub all_read : (xs : List Item) (wraps : List Wrap) (rest : ℕ) (u : Unwound) → rest ≤ length wraps → HasRead xs wraps 0 rest u
    → reverse u.out.items ≡ (known (entries_from 0 xs wraps)).out
all_read xs wraps rest u few h = let none : rest ≡ 0 = none_left wraps rest few h.before in
    h.unwound.out ∙ ap (λ (k : ℕ). (known (entries_from 0 xs (drop k wraps))).out) none
  where
    none_left : (ws : List Wrap) (k : ℕ) → k ≤ length ws → AreOrdered 0 (take k ws) 0 → k ≡ 0
    none_left ws zero le o = refl
    none_left [] (suc k) le o = absurd (omega arith)
    none_left (w ∷ ws) (suc k) le o = absurd (let high = o.1 in omega arith)
