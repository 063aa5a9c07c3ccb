-- Where the trees end that begin among some items.
use Rattle.std.proofs.Common.{◌≡◌, ◌<◌, ◌+◌, ℕ, zero, suc, List, [], ◌∷◌, ◌++◌, length, drop, get_or, reverse, refl, sym, ◌∙◌, ap, arith, append_assoc, length-append}
use Rattle.std.specs.Prelude.{Some, slice_get}
use Rattle.std.proofs.Math.Path.{ap₂}
use Rattle.std.proofs.Math.Seq.{drop-cons}
use Rattle.g4_trees.specs.declared.tree.Item.{Item}
use Rattle.g4_trees.specs.declared.tree.Item.TheVariants as items
use Rattle.g4_trees.specs.Trees.{Tree, leaf, node, Forest, no_tree, a_tree, items_of, items_of_all}
use Rattle.g4_patterns.specs.Lasts.{AreLasts, Read, entered, read, read_before}

mutual
  -- the open ends after a tree was read are those before
  open_after : (k : ℕ) (t : Tree) (rest : List Item)
      → (read k (items_of t ++ rest)).open_ends ≡ (read (k + length (items_of t)) rest).open_ends
  open_after k (leaf at) rest =
      let n : suc k ≡ k + length (items_of (leaf at)) = omega arith in ap (λ (j : ℕ). (read j rest).open_ends) n
  open_after k (node rule alt at cs) rest =
      let m = length (items_of_all cs) in
      let ys = (items_of_all cs ++ items.Exit ∷ []) ++ rest in
      let inner : (read (suc k) ys).open_ends ≡ (suc k + m) ∷ (read (suc (suc k + m)) rest).open_ends =
      ap (λ (zs : List Item). (read (suc k) zs).open_ends) (append_assoc (items_of_all cs) (items.Exit ∷ []) rest)
      ∙ open_after_all (suc k) cs (items.Exit ∷ rest) in
      let whole : length (items_of_all cs ++ items.Exit ∷ []) ≡ m + 1 = length-append (items_of_all cs) (items.Exit ∷ []) in
      let n : suc (suc k + m) ≡ k + length (items_of (node rule alt at cs)) = omega (arith, whole) in
      ap (λ (os : List ℕ). (entered k os (read (suc k) ys).lasts).open_ends) inner ∙ ap (λ (j : ℕ). (read j rest).open_ends) n

  -- the same of trees one after another
  open_after_all : (k : ℕ) (ts : Forest) (rest : List Item)
      → (read k (items_of_all ts ++ rest)).open_ends ≡ (read (k + length (items_of_all ts)) rest).open_ends
  open_after_all k no_tree rest =
      let n : k ≡ k + length (items_of_all no_tree) = omega arith in ap (λ (j : ℕ). (read j rest).open_ends) n
  open_after_all k (a_tree t ts) rest =
      let whole : length (items_of t ++ items_of_all ts) ≡ length (items_of t) + length (items_of_all ts) =
      length-append (items_of t) (items_of_all ts) in
      let n : (k + length (items_of t)) + length (items_of_all ts) ≡ k + length (items_of_all (a_tree t ts)) = omega (arith, whole) in
      ap (λ (ys : List Item). (read k ys).open_ends) (append_assoc (items_of t) (items_of_all ts) rest)
      ∙ open_after k t (items_of_all ts ++ rest)
      ∙ open_after_all (k + length (items_of t)) ts rest
      ∙ ap (λ (j : ℕ). (read j rest).open_ends) n

-- a number with its place in a list
record Last (lasts : List ℕ) (i k : ℕ) (t : Tree) : Type 0 where
  last : ℕ
  is : slice_get lasts i ≡ Some last
  whole : suc last ≡ k + length (items_of t)

-- the last item of the first tree
first_last : (k : ℕ) (t : Tree) (rest : List Item) → Last (read k (items_of t ++ rest)).lasts 0 k t
first_last k (leaf at) rest = record { last = k; is = refl; whole = omega arith }
first_last k (node rule alt at cs) rest =
    let m = length (items_of_all cs) in
    let ys = (items_of_all cs ++ items.Exit ∷ []) ++ rest in
    let inner : (read (suc k) ys).open_ends ≡ (suc k + m) ∷ (read (suc (suc k + m)) rest).open_ends =
    ap (λ (zs : List Item). (read (suc k) zs).open_ends) (append_assoc (items_of_all cs) (items.Exit ∷ []) rest)
    ∙ open_after_all (suc k) cs (items.Exit ∷ rest) in
    let whole : length (items_of_all cs ++ items.Exit ∷ []) ≡ m + 1 = length-append (items_of_all cs) (items.Exit ∷ []) in
    record {
      last = suc k + m;
      is = ap (λ (os : List ℕ). slice_get (entered k os (read (suc k) ys).lasts).lasts 0) inner;
      whole = omega (arith, whole);
    }

-- the first item has one last place
one_first : (k : ℕ) (x : Item) (r : Read) (i : ℕ) → slice_get (read_before k x r).lasts (suc i) ≡ slice_get r.lasts i
one_first k (items.Enter rule alt at) r i = by r.open_ends
  where
    by : (os : List ℕ) → slice_get (entered k os r.lasts).lasts (suc i) ≡ slice_get r.lasts i
    by [] = refl
    by (o ∷ os) = refl
one_first k (items.Token at) r i = refl
one_first k items.Exit r i = refl

-- the last place of an item is that of the first item from it on
from_place : (j : ℕ) (xs : List Item) (k : ℕ) → slice_get (read j xs).lasts k ≡ slice_get (read (j + k) (drop k xs)).lasts 0
from_place j xs zero = let n : j ≡ j + 0 = omega arith in ap (λ (i : ℕ). slice_get (read i xs).lasts 0) n
from_place j [] (suc k) = refl
from_place j (x ∷ xs) (suc k) =
    let n : suc j + k ≡ j + suc k = omega arith in
    one_first j x (read (suc j) xs) k ∙ from_place (suc j) xs k ∙ ap (λ (i : ℕ). slice_get (read i (drop k xs)).lasts 0) n

-- the last places of all trees
pub are_lasts : (xs : List Item) → AreLasts xs (read 0 xs).lasts
are_lasts xs k t at =
    let first = first_last k t at.0 in
    let n : 0 + k ≡ k = omega arith in
    let there : slice_get (read 0 xs).lasts k ≡ slice_get (read k (items_of t ++ at.0)).lasts 0 =
    from_place 0 xs k ∙ ap (λ (i : ℕ). slice_get (read i (drop k xs)).lasts 0) n
    ∙ ap (λ (ys : List Item). slice_get (read k ys).lasts 0) at.1 in
    (first.last, there ∙ first.is, first.whole)

-- what the lists of the code are
abbrev pub kept : List ℕ → List ℕ → Read
kept open_ends lasts = record { open_ends = reverse open_ends; lasts = reverse lasts }

-- one item more
pub read_more : (xs : List Item) (k : ℕ) (d : Item) (r s : Read) → k < length xs → r ≡ read (suc k) (drop (suc k) xs)
    → s.open_ends ≡ (read_before k (get_or xs k d) r).open_ends → s.lasts ≡ (read_before k (get_or xs k d) r).lasts
    → s ≡ read k (drop k xs)
read_more xs k d r s within before open_ends lasts =
    let same : s ≡ read_before k (get_or xs k d) r =
    ap₂ (λ (os ls : List ℕ). record { open_ends = os; lasts = ls }) open_ends lasts in
    same ∙ ap (read_before k (get_or xs k d)) before ∙ ap (read k) (sym (drop-cons xs k d within))
