-- What begins at a place among the items of a tree.
use Rattle.std.proofs.Common.{◌≡◌, ◌⊎◌, inl, inr, ◌<◌, ◌≤◌, ◌+◌, ◌-◌, ℕ, zero, suc, List, [], ◌∷◌, ◌++◌, length, drop, true, false, refl, sym, ◌∙◌, ap, arith, append_assoc, append-nil, length-append, length-drop}
use Rattle.std.specs.Prelude.{Some, slice_get}
use Rattle.std.proofs.Math.Seq.{drop-append_seam, drop-append-add, drop-nil}
use Rattle.std.proofs.lemmas.Option.{slice_get_past}
use Rattle.g4_trees.specs.declared.tree.Item.{Item}
use Rattle.g4_trees.specs.declared.tree.Item.TheVariants as items
use Rattle.g4_trees.specs.Trees.{Tree, leaf, node, Forest, no_tree, a_tree, items_of, items_of_all}
use Rattle.g4_patterns.specs.Matching.{IsNode}
use Rattle.g4_patterns.specs.Places.{AreOneTree, IsTreeAt}
use Rattle.g4_patterns.specs.Walking.{begins_node, begins_tree}

-- items begin with the end of a node, or with a tree
pub data Begins (xs : List Item) : Type 0 where
  an_end : (rest : List Item) → xs ≡ items.Exit ∷ rest → Begins xs
  a_whole : (t : Tree) (rest : List Item) → xs ≡ items_of t ++ rest → Begins xs

-- the same items begin alike
same_begin : (xs ys : List Item) → xs ≡ ys → Begins ys → Begins xs
same_begin xs ys e (an_end rest is) = an_end rest (e ∙ is)
same_begin xs ys e (a_whole t rest is) = a_whole t rest (e ∙ is)

-- a place is before the end, or past it by some number
abbrev pub Split : ℕ → ℕ → Type 0
Split k n = (k < n) ⊎ ((j : ℕ) × (k ≡ n + j))

pub split : (k n : ℕ) → Split k n
split k zero = inr (k, omega arith)
split zero (suc n) = inl (omega arith)
split (suc k) (suc n) = by (split k n)
  where
    by : Split k n → Split (suc k) (suc n)
    by (inl lt) = inl (omega arith)
    by (inr h) = inr (h.0, let e = h.1 in omega arith)

-- in the first tree or after it
in_either : (t : Tree) (ts : Forest) (tail : List Item) (k : ℕ) → Split k (length (items_of t))
    → (k < length (items_of t) → Begins (drop k (items_of t ++ (items_of_all ts ++ (items.Exit ∷ tail)))))
    → ((j : ℕ) → k ≡ length (items_of t) + j → Begins (drop j (items_of_all ts ++ (items.Exit ∷ tail))))
    → Begins (drop k (items_of t ++ (items_of_all ts ++ (items.Exit ∷ tail))))
in_either t ts tail k (inl lt) here later = here lt
in_either t ts tail k (inr h) here later =
    let rest = items_of_all ts ++ (items.Exit ∷ tail) in
    same_begin (drop k (items_of t ++ rest)) (drop h.0 rest)
    (ap (λ (i : ℕ). drop i (items_of t ++ rest)) h.1 ∙ drop-append-add (items_of t) rest h.0) (later h.0 h.1)

mutual
  -- at a place among the items of a tree, which others follow
  in_tree : (t : Tree) (tail : List Item) (k : ℕ) → k < length (items_of t) → Begins (drop k (items_of t ++ tail))
  in_tree t tail zero within = a_whole t tail refl
  in_tree (leaf at) tail (suc k) within = absurd (omega arith)
  in_tree (node rule alt at cs) tail (suc k) within =
      let whole : length (items_of_all cs ++ items.Exit ∷ []) ≡ length (items_of_all cs) + 1 =
      length-append (items_of_all cs) (items.Exit ∷ []) in
      let low : k ≤ length (items_of_all cs) = omega (arith, whole) in
      same_begin (drop k ((items_of_all cs ++ items.Exit ∷ []) ++ tail)) (drop k (items_of_all cs ++ (items.Exit ∷ tail)))
      (ap (drop k) (append_assoc (items_of_all cs) (items.Exit ∷ []) tail))
      (in_trees cs tail k low)

  -- at a place among the items of trees, which the end of a node follows, or there
  in_trees : (ts : Forest) (tail : List Item) (k : ℕ) → k ≤ length (items_of_all ts)
      → Begins (drop k (items_of_all ts ++ (items.Exit ∷ tail)))
  in_trees no_tree tail k within =
      let none : k ≡ 0 = omega arith in
      same_begin (drop k (items.Exit ∷ tail)) (items.Exit ∷ tail) (ap (λ (j : ℕ). drop j (items.Exit ∷ tail)) none)
      (an_end tail refl)
  in_trees (a_tree t ts) tail k within =
      let whole : length (items_of t ++ items_of_all ts) ≡ length (items_of t) + length (items_of_all ts) =
      length-append (items_of t) (items_of_all ts) in
      same_begin (drop k ((items_of t ++ items_of_all ts) ++ (items.Exit ∷ tail)))
      (drop k (items_of t ++ (items_of_all ts ++ (items.Exit ∷ tail))))
      (ap (drop k) (append_assoc (items_of t) (items_of_all ts) (items.Exit ∷ tail)))
      (in_either t ts tail k (split k (length (items_of t)))
      (λ (lt : k < length (items_of t)). in_tree t (items_of_all ts ++ (items.Exit ∷ tail)) k lt)
      (λ (j : ℕ) (e : k ≡ length (items_of t) + j). in_trees ts tail j (omega (arith, whole, e))))

-- at a place among the items of a tree
pub begins : (xs : List Item) (t : Tree) (k : ℕ) → xs ≡ items_of t → k < length xs → Begins (drop k xs)
begins xs t k e within =
    same_begin (drop k xs) (drop k (items_of t ++ [])) (ap (drop k) (e ∙ sym (append-nil (items_of t))))
    (in_tree t [] k (let same : length xs ≡ length (items_of t) = ap length e in omega arith))

-- what a place has where the items from it on begin so
pub first_at : (xs : List Item) (k : ℕ) (y : Item) (ys : List Item) → drop k xs ≡ y ∷ ys → slice_get xs k ≡ Some y
first_at [] zero y ys e = absurd (cc)
first_at [] (suc k) y ys e = absurd (cc)
first_at (x ∷ xs) zero y ys e = let same : x ≡ y = cc in ap (λ (z : Item). Some z) same
first_at (x ∷ xs) (suc k) y ys e = first_at xs k y ys e

-- the items after some
pub drop_past : (k : ℕ) (xs ys zs : List Item) → drop k xs ≡ ys ++ zs → drop (k + length ys) xs ≡ zs
drop_past zero xs ys zs e = ap (λ (j : ℕ). drop j xs) (let n : 0 + length ys ≡ length ys = omega arith in n)
    ∙ ap (drop (length ys)) e ∙ drop-append_seam ys zs
drop_past (suc k) [] [] zs e = drop-nil {A = Item} (suc k + length {A = Item} []) ∙ e
drop_past (suc k) [] (y ∷ ys) zs e = absurd (cc)
drop_past (suc k) (x ∷ xs) ys zs e =
    ap (λ (j : ℕ). drop j (x ∷ xs)) (let n : suc k + length ys ≡ suc (k + length ys) = omega arith in n) ∙ drop_past k xs ys zs e

-- a tree has an item
pub some_item : (t : Tree) → 0 < length (items_of t)
some_item (leaf at) = omega arith
some_item (node rule alt at ts) = omega arith

-- so where a tree is, an item is
pub is_inside : (xs : List Item) (k : ℕ) (t : Tree) → IsTreeAt xs k t → k < length xs
is_inside xs k t at =
    let some : 0 < length (items_of t) = some_item t in
    let whole : length (drop k xs) ≡ length (items_of t) + length at.0 = ap length at.1 ∙ length-append (items_of t) at.0 in
    let cut : length (drop k xs) ≡ length xs - k = length-drop k xs in
    omega arith

-- the tree that begins where a node begins is a node
pub is_node : (xs : List Item) (k : ℕ) (t : Tree) → IsTreeAt xs k t → begins_node (slice_get xs k) ≡ true → IsNode t
is_node xs k (leaf at) there e =
    let never : false ≡ true = sym (ap begins_node (first_at xs k (items.Token at) there.0 there.1)) ∙ e in absurd (cc)
is_node xs k (node rule alt at ts) there e = tt

-- where a tree is that is a node, a node begins
pub node_begins : (xs : List Item) (k : ℕ) (t : Tree) → IsTreeAt xs k t → IsNode t → begins_node (slice_get xs k) ≡ true
node_begins xs k (leaf at) there h = absurd h
node_begins xs k (node rule alt at ts) there h =
    ap begins_node (first_at xs k (items.Enter rule alt at) ((items_of_all ts ++ items.Exit ∷ []) ++ there.0) there.1)

-- where a tree is, one begins
pub tree_begins : (xs : List Item) (k : ℕ) (t : Tree) → IsTreeAt xs k t → begins_tree (slice_get xs k) ≡ true
tree_begins xs k (leaf at) there = ap begins_tree (first_at xs k (items.Token at) there.0 there.1)
tree_begins xs k (node rule alt at ts) there =
    ap begins_tree (first_at xs k (items.Enter rule alt at) ((items_of_all ts ++ items.Exit ∷ []) ++ there.0) there.1)

-- where a tree begins, one is
pub tree_there : (xs : List Item) → AreOneTree xs → (k : ℕ) → begins_tree (slice_get xs k) ≡ true → (t : Tree) × IsTreeAt xs k t
tree_there xs one k e = by (split k (length xs))
  where
    by_begin : Begins (drop k xs) → (t : Tree) × IsTreeAt xs k t
    by_begin (an_end rest is) =
        let never : false ≡ true = sym (ap begins_tree (first_at xs k items.Exit rest is)) ∙ e in absurd (cc)
    by_begin (a_whole t rest is) = (t, (rest, is))

    by : Split k (length xs) → (t : Tree) × IsTreeAt xs k t
    by (inl lt) = by_begin (begins xs one.0 k one.1 lt)
    by (inr h) =
        let past : length xs ≤ k = (let n = h.1 in omega arith) in
        let never : false ≡ true = sym (ap begins_tree (slice_get_past xs k past)) ∙ e in absurd (cc)
