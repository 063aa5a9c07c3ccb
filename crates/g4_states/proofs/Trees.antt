-- The trees of elements and of rules, a layer at a time.
use Rattle.std.proofs.Common.{◌≡◌, ℕ, ◌+◌, ◌<◌, ◌≤◌, List, [], ◌∷◌, length, map, drop, get_or, refl, sym, ◌∙◌, ap, arith, Option, Vec, Global}
use Rattle.std.proofs.lemmas.List.{at_drop_more, at_drop_all}
use Rattle.g4_source.specs.Full.{IsSome}
use Rattle.g4_source.specs.declared.name.Label.{Label}
use Rattle.g4_source.specs.declared.element.Repeat.{Repeat}
use Rattle.g4_source.specs.declared.element.Element.{Element as Node}
use Rattle.g4_source.specs.declared.element.Element.TheVariants as nodes
use Rattle.g4_source.specs.declared.element.Alternative.{Alternative as Side, out-Alternative}
use Rattle.g4_source.specs.Elements.{Element, atom, block, Elements, empty, then, Alternatives, none, or, only, either}
use Rattle.g4_source.specs.Bind.{over, in_order_over, either_over}
use Rattle.g4_source.specs.Trees.{element_of, alternative_of, in_order}
use Rattle.g4_source.proofs.Trees.{of_atom, of_block, of_alternative}
use Rattle.g4_states.specs.Trees.{tree_of, side_of, run_of, sides_of, bodies_over, rules_over, tree_of_rule}

module _ {X B : Type 0} (tree : X → Elements B) where
  -- one alternative
  pub lone_of : (xs : List X) (d : X) (run : Elements B) → 1 ≤ length xs → length xs < 2 → d ≡ get_or xs 0 d → run ≡ tree d
      → either (map tree xs) ≡ only run
  lone_of [] d run low high at is = absurd (omega arith)
  lone_of (x ∷ []) d run low high at is = ap only (ap tree (sym at) ∙ sym is)
  lone_of (x ∷ y ∷ more) d run low high at is = absurd (omega arith)

  -- the next alternative
  pub next_of : (xs : List X) (i : ℕ) (d : X) (run : Elements B) → i < length xs → d ≡ get_or xs i d → run ≡ tree d
      → either (map tree (drop i xs)) ≡ or run (either (map tree (drop (i + 1) xs)))
  next_of xs i d run less at is =
      at_drop_more (λ (zs : List X). either (map tree zs)) xs i d less
      ∙ ap (λ (z : Elements B). or z (either (map tree (drop (i + 1) xs)))) (ap tree (sym at) ∙ sym is)

  -- no alternative is left
  pub none_of : (xs : List X) (i : ℕ) → length xs ≤ i → either (map tree (drop i xs)) ≡ none
  none_of xs i low = at_drop_all (λ (zs : List X). either (map tree zs)) xs i low

  -- where there is an alternative, the list has one
  pub some_of : (xs : List X) → IsSome (either (map tree xs)) → 1 ≤ length xs
  some_of [] h = absurd h
  some_of (x ∷ xs) h = omega arith

module _ {X B : Type 0} (tree : X → Element B) where
  -- the next element
  pub next_item : (xs : List X) (i : ℕ) (d : X) → i < length xs → d ≡ get_or xs i d
      → in_order (map tree (drop i xs)) ≡ then (tree d) (in_order (map tree (drop (i + 1) xs)))
  next_item xs i d less at = at_drop_more (λ (zs : List X). in_order (map tree zs)) xs i d less
      ∙ ap (λ (z : X). then (tree z) (in_order (map tree (drop (i + 1) xs)))) (sym at)

  -- no element is left
  pub no_item : (xs : List X) (i : ℕ) → length xs ≤ i → in_order (map tree (drop i xs)) ≡ empty
  no_item xs i low = at_drop_all (λ (zs : List X). in_order (map tree zs)) xs i low

-- an element that is an atom
pub plain_atom : {A : Type 0} (x : Node A) (a : A) → x ≡ nodes.Atom a → element_of x ≡ atom a
plain_atom x a is = ap element_of is ∙ of_atom a

-- an element that is a block
pub plain_block : {A : Type 0} (x : Node A) (label : Option Label) (repeat : Repeat) (alternatives : Vec (Side A) Global)
    (xs : List (Side A)) → x ≡ nodes.Block label repeat alternatives → xs ≡ alternatives.items →
    element_of x ≡ block label repeat (either (map alternative_of xs))
plain_block {A} x label repeat alternatives xs is items =
    ap element_of is ∙ (of_block label repeat alternatives
    ∙ ap (λ (zs : List (Side A)). block label repeat (either (map alternative_of zs))) (sym items))

-- an alternative of a block is its elements
pub plain_side : {A : Type 0} (d : Side A) (ys : List (Node A)) → ys ≡ (out-Alternative A d).elements.items
    → in_order (map element_of ys) ≡ alternative_of d
plain_side {A} d ys is = ap (λ (zs : List (Node A)). in_order (map element_of zs)) is ∙ sym (of_alternative d)

module _ {A B : Type 0} (f : A → B) where
  -- alternatives in order
  over_sides : (xs : List (Side A)) → either_over f (either (map alternative_of xs)) ≡ sides_of f xs
  unfolding side_of
  over_sides [] = refl
  over_sides (x ∷ xs) = ap (or (in_order_over f (alternative_of x))) (over_sides xs)

  -- elements one after another
  pub run_over : (xs : List (Node A)) → in_order_over f (in_order (map element_of xs)) ≡ run_of f xs
  unfolding tree_of
  run_over [] = refl
  run_over (x ∷ xs) = ap (then (over f (element_of x))) (run_over xs)

  -- an element that is an atom
  pub tree_atom : (x : Node A) (a : A) → x ≡ nodes.Atom a → tree_of f x ≡ atom (f a)
  unfolding tree_of
  tree_atom x a is = ap (over f) (plain_atom x a is)

  -- an element that is a block
  pub tree_block : (x : Node A) (label : Option Label) (repeat : Repeat) (alternatives : Vec (Side A) Global) (xs : List (Side A))
      → x ≡ nodes.Block label repeat alternatives → xs ≡ alternatives.items →
      tree_of f x ≡ block label repeat (sides_of f xs)
  unfolding tree_of
  tree_block x label repeat alternatives xs is items =
      ap (over f) (plain_block x label repeat alternatives xs is items) ∙ ap (block label repeat) (over_sides xs)

  -- an alternative of a block is its elements
  pub side_run : (d : Side A) (ys : List (Node A)) → ys ≡ (out-Alternative A d).elements.items → run_of f ys ≡ side_of f d
  unfolding side_of
  side_run d ys is = sym (run_over ys) ∙ ap (in_order_over f) (plain_side d ys is)

  -- an alternative of a rule is its elements
  pub body_run : (x : Elements A) (ys : List (Node A)) → in_order (map element_of ys) ≡ x → run_of f ys ≡ in_order_over f x
  body_run x ys is = sym (run_over ys) ∙ ap (in_order_over f) is

mutual
  -- an element over its own atoms is itself
  same_element : {A : Type 0} (x : Element A) → over (λ a. a) x ≡ x
  same_element (atom a) = refl
  same_element (block label repeat xs) = ap (block label repeat) (same_either xs)

  -- elements one after another
  same_in_order : {A : Type 0} (xs : Elements A) → in_order_over (λ a. a) xs ≡ xs
  same_in_order empty = refl
  same_in_order (then x xs) = ap (λ y. then y (in_order_over (λ a. a) xs)) (same_element x) ∙ ap (then x) (same_in_order xs)

  -- alternatives
  same_either : {A : Type 0} (xs : Alternatives A) → either_over (λ a. a) xs ≡ xs
  same_either none = refl
  same_either (or x xs) = ap (λ y. or y (either_over (λ a. a) xs)) (same_in_order x) ∙ ap (or x) (same_either xs)

module _ {X A : Type 0} (tree : X → Elements A) where
  -- a rule
  same_bodies : (xs : List X) → bodies_over (λ a. a) tree xs ≡ either (map tree xs)
  same_bodies [] = refl
  same_bodies (x ∷ xs) = ap (λ y. or y (bodies_over (λ a. a) tree xs)) (same_in_order (tree x)) ∙ ap (or (tree x)) (same_bodies xs)

  -- rules over their own atoms
  pub same_rules : {R : Type 0} (bodies : R → List X) (rules : List R)
      → rules_over (λ a. a) tree bodies rules ≡ map (tree_of_rule tree bodies) rules
  same_rules bodies [] = refl
  same_rules bodies (rule ∷ rules) =
      ap (λ y. y ∷ rules_over (λ a. a) tree bodies rules) (same_bodies (bodies rule))
      ∙ ap (λ ys. tree_of_rule tree bodies rule ∷ ys) (same_rules bodies rules)

module _ {R X A B : Type 0} (f : A → B) (tree : X → Elements A) (bodies : R → List X) where
  -- the next of the rules
  pub next_tree : (xs : List R) (i : ℕ) (d : R) (sides : List X) → i < length xs → d ≡ get_or xs i d → sides ≡ bodies d →
      rules_over f tree bodies (drop i xs) ≡ bodies_over f tree sides ∷ rules_over f tree bodies (drop (i + 1) xs)
  next_tree xs i d sides less at is =
      at_drop_more (λ (zs : List R). rules_over f tree bodies zs) xs i d less ∙
      ap (λ (ys : List X). bodies_over f tree ys ∷ rules_over f tree bodies (drop (i + 1) xs)) (ap bodies (sym at) ∙ sym is)

  -- no rule is left
  pub no_tree : (xs : List R) (i : ℕ) → length xs ≤ i → rules_over f tree bodies (drop i xs) ≡ []
  no_tree xs i low = at_drop_all (λ (zs : List R). rules_over f tree bodies zs) xs i low

  -- there are as many trees as rules
  pub length_trees : (xs : List R) → length (rules_over f tree bodies xs) ≡ length xs
  length_trees [] = refl
  length_trees (x ∷ xs) = omega (arith, length_trees xs)
