-- The items of a tree at its place.
use Rattle.std.proofs.Common.{◌≡◌, ◌<◌, ◌≤◌, ◌+◌, ◌-◌, ℕ, suc, List, [], length, take, drop, ◌==◌, true, false, refl, sym, ◌∙◌, ap, arith, append-nil, length-append, length-drop}
use Rattle.std.specs.Prelude.{Some, None, Result, IsErrAnd, slice_get, ⊤}
use Rattle.std.proofs.Math.Seq.{take-append_seam}
use Rattle.std.proofs.lemmas.Bool.Decides.{Decides-eqb}
use Rattle.std.proofs.lemmas.Result.{err_from_is_err_and}
use Rattle.g4_trees.specs.declared.tree.Item.{Item}
use Rattle.g4_trees.specs.Appending.{Adds}
use Rattle.g4_trees.specs.Trees.{Tree, items_of}
use Rattle.g4_patterns.specs.Lasts.{AreLasts}
use Rattle.g4_patterns.specs.Places.{IsTreeAt}
use Rattle.g4_patterns.proofs.Subtrees.{some_item}

-- where a tree ends that begins at a place, by what was looked up
pub record Ends (xs : List Item) (place last : ℕ) (t : Tree) : Type 0 where
  pub low : place ≤ last
  pub high : last < length xs
  pub items : take (last + 1 - place) (drop place xs) ≡ items_of t

pub ends : (xs : List Item) (lasts : List ℕ) (place last : ℕ) (t : Tree) → AreLasts xs lasts → IsTreeAt xs place t
    → slice_get lasts place ≡ Some last → Ends xs place last t
ends xs lasts place last t are at there =
    let found = are place t at in
    let same : found.0 ≡ last = (let one = found.1 in cc) in
    let whole : suc found.0 ≡ place + length (items_of t) = found.2 in
    let some : 0 < length (items_of t) = some_item t in
    let rest : length (drop place xs) ≡ length (items_of t) + length at.0 =
    ap length at.1 ∙ length-append (items_of t) at.0 in
    let cut : length (drop place xs) ≡ length xs - place = length-drop place xs in
    let count : last + 1 - place ≡ length (items_of t) = omega arith in
    record {
      low = omega arith;
      high = omega arith;
      items = ap (λ (n : ℕ). take n (drop place xs)) count ∙ ap (take (length (items_of t))) at.1
          ∙ take-append_seam (items_of t) at.0;
    }

-- there is one
pub has_last : (xs : List Item) (lasts : List ℕ) (place : ℕ) (t : Tree) → AreLasts xs lasts → IsTreeAt xs place t
    → slice_get lasts place ≡ None → ⊥
has_last xs lasts place t are at none = let found = (are place t at).1 in cc

-- the items of a tree are one at least
pub has_items : (xs : List Item) (t : Tree) → xs ≡ items_of t → (length xs == 0) ≡ true → ⊥
has_items xs t is none =
    let some : 0 < length (items_of t) = some_item t in
    let same : length xs ≡ length (items_of t) = ap length is in
    let zero_items : length xs ≡ 0 = (Decides-eqb (length xs) 0).0 none in
    absurd (omega arith)

-- and others than none
pub no_items : (xs : List Item) → xs ≡ [] → (length xs == 0) ≡ false → ⊥
no_items xs is some = let none : (length xs == 0) ≡ true = (Decides-eqb (length xs) 0).1 (ap length is) in absurd (cc)

-- nothing is added where memory runs out
pub adds_nothing : {E : Type 0} (Q : E → Type 0) (more old : List ℕ) (r : Result ⊤ E) → IsErrAnd r Q → Adds more old old r
adds_nothing Q more old r fails =
    let p = err_from_is_err_and {Q = Q} r fails in rw p.1 ([], more, refl, sym (append-nil old))
