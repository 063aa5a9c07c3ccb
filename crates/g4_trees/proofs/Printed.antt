-- What the items of a tree add to a text is the text of the tree.
use Rattle.std.proofs.Common.{◌≡◌, [], ◌∷◌, ◌++◌, ℕ, List, Bool, true, false, codes, refl, sym, ◌∙◌, ap, subst, append_assoc, append-nil, arith, length, get_or, take, take_all, drop, ◌-◌, ◌≤◌}
use Rattle.g4_tokens.specs.declared.token.Tokens.{Tokens}
use Rattle.g4_source.specs.declared.rule.ParserRule.{ParserRule}
use Rattle.g4_trees.specs.declared.tree.Item.{Item}
use Rattle.g4_trees.specs.declared.tree.Item.TheVariants as items
use Rattle.g4_trees.specs.Appending.{AddsFront}
use Rattle.g4_trees.proofs.Appended.{Leaves, front_of_next}
use Rattle.g4_trees.specs.Pieces.{is_enter, opening, gap, item_text, items_text}
use Rattle.g4_trees.specs.TreeText.{name_of, text_at, text_of, texts_of}
use Rattle.g4_trees.specs.Trees.{Tree, leaf, node, Forest, no_tree, a_tree, items_of, items_of_all}

-- a space comes before a tree
gap_tree : (t : Tree) (rest : List Item) → gap (items_of t ++ rest) ≡ codes " "
gap_tree (leaf at) rest = refl
gap_tree (node rule alt at children) rest = refl

-- a node whose first child is a tree has a bracket
opening_tree : (t : Tree) (rest : List Item) → opening (items_of t ++ rest) ≡ codes "("
opening_tree (leaf at) rest = refl
opening_tree (node rule alt at children) rest = refl

-- the items of a node's children, its end and what follows
abbrev ends : Forest → List Item → List Item
ends children rest = items_of_all children ++ items.Exit ∷ rest

-- the items of a first child come first
ends_first : (t : Tree) (ts : Forest) (rest : List Item)
    → (items_of_all (a_tree t ts) ++ items.Exit ∷ []) ++ rest ≡ items_of t ++ ends ts rest
ends_first t ts rest = append_assoc (items_of_all (a_tree t ts)) (items.Exit ∷ []) rest
    ∙ append_assoc (items_of t) (items_of_all ts) (items.Exit ∷ rest)

-- a node with children
in_brackets : (name one others later : List ℕ)
    → (codes "(" ++ (name ++ codes " ")) ++ (one ++ (others ++ (codes ")" ++ later)))
    ≡ (codes "(" ++ (name ++ ((codes " " ++ (one ++ others)) ++ codes ")"))) ++ later
in_brackets name one others later = simp append_assoc

module _ {A : Type 0} (rules : List (ParserRule A)) (tokens : Tokens) where
  -- what a space and items add after a child
  abbrev after : List Item → List ℕ
  after rest = gap rest ++ items_text rules tokens false rest

  mutual
    -- a tree before other items
    pub tree_printed : (entered : Bool) (t : Tree) (rest : List Item)
        → items_text rules tokens entered (items_of t ++ rest) ≡ text_of rules tokens t ++ after rest
    tree_printed entered (leaf at) rest = append_assoc (text_at tokens at) (gap rest) (items_text rules tokens false rest)
    tree_printed entered (node rule alt at no_tree) rest =
        ap (λ (xs : List ℕ). xs ++ after rest) (append-nil (name_of rules rule))
    tree_printed entered (node rule alt at (a_tree t ts)) rest =
        let name = name_of rules rule in
        let first = items_of t ++ ends ts rest in
        ap (λ (xs : List Item). item_text rules tokens entered (items.Enter rule alt at) xs ++ items_text rules tokens true xs)
        (ends_first t ts rest)
        ∙ ap (λ (o : List ℕ). (o ++ (name ++ gap first)) ++ items_text rules tokens true first) (opening_tree t (ends ts rest))
        ∙ ap (λ (s : List ℕ). (codes "(" ++ (name ++ s)) ++ items_text rules tokens true first) (gap_tree t (ends ts rest))
        ∙ ap (λ (xs : List ℕ). (codes "(" ++ (name ++ codes " ")) ++ xs)
        (tree_printed true t (ends ts rest) ∙ ap (λ (xs : List ℕ). text_of rules tokens t ++ xs) (children_printed ts rest))
        ∙ in_brackets name (text_of rules tokens t) (texts_of rules tokens ts) (after rest)

    -- children, the end of their node, and other items
    children_printed : (ts : Forest) (rest : List Item) → after (ends ts rest) ≡ texts_of rules tokens ts ++ (codes ")" ++ after rest)
    children_printed no_tree rest = refl
    children_printed (a_tree t ts) rest =
        let first = items_of t ++ ends ts rest in
        ap after (append_assoc (items_of t) (items_of_all ts) (items.Exit ∷ rest))
        ∙ ap (λ (s : List ℕ). s ++ items_text rules tokens false first) (gap_tree t (ends ts rest))
        ∙ ap (λ (xs : List ℕ). codes " " ++ xs) (tree_printed false t (ends ts rest)
        ∙ ap (λ (xs : List ℕ). text_of rules tokens t ++ xs) (children_printed ts rest)
        ∙ sym (append_assoc (text_of rules tokens t) (texts_of rules tokens ts) (codes ")" ++ after rest)))

  -- the items of a tree
  pub text_printed : (t : Tree) → items_text rules tokens false (items_of t) ≡ text_of rules tokens t
  text_printed t = ap (items_text rules tokens false) (sym (append-nil (items_of t))) ∙ tree_printed false t []
      ∙ append-nil (text_of rules tokens t)

  -- what is left of a list after its first item
  rest_of : (x : Item) (xs : List Item) → take (length (x ∷ xs) - 1) xs ≡ xs
  rest_of x xs = let e : length (x ∷ xs) - 1 ≡ length xs = omega arith in rw e (take_all (length xs) xs (omega arith))

  -- a front part of what the next item adds is added
  pub front_of_item : (entered : Bool) (xs : List Item) (d : Item) (all old mid now : List ℕ) → 1 ≤ length xs
      → Leaves all (items_text rules tokens entered xs) old mid →
      AddsFront (item_text rules tokens entered (get_or xs 0 d) (take (length xs - 1) (drop 1 xs))) mid now → AddsFront all old now
  front_of_item entered [] d all old mid now some so_far front = absurd (omega (arith, some))
  front_of_item entered (x ∷ xs) d all old mid now some so_far front =
      front_of_next all (item_text rules tokens entered x xs) (items_text rules tokens (is_enter x) xs) old mid now so_far
      (subst (λ (ys : List Item). AddsFront (item_text rules tokens entered x ys) mid now) (rest_of x xs) front)
