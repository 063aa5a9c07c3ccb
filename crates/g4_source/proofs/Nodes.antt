-- Elements of the code under a substitution, a step at a time.
use Rattle.std.proofs.Common.{◌≡◌, ℕ, ◌+◌, ◌<◌, ◌≤◌, List, [], ◌∷◌, ◌++◌, Option, length, map, drop, get_or, Vec, Global, refl, sym, ap, ◌∙◌, append_assoc}
use Rattle.std.proofs.lemmas.List.{drop_all, drop_more, map-append, append-nil}
use Rattle.g4_source.specs.declared.name.Label.{Label}
use Rattle.g4_source.specs.declared.element.Repeat.{Repeat}
use Rattle.g4_source.specs.declared.element.Element.{Element as Node}
use Rattle.g4_source.specs.declared.element.Element.TheVariants as nodes
use Rattle.g4_source.specs.declared.element.Alternative.{Alternative as Side, out-Alternative, roll-Alternative}
use Rattle.g4_source.specs.Elements.{Element, Elements, or, then, block, either}
use Rattle.g4_source.specs.Trees.{in_order, element_of, alternative_of}
use Rattle.g4_source.proofs.Trees.{of_atom, of_block, of_alternative, of_elements}
use Rattle.g4_source.specs.Bind.{bind, in_order_bind, either_bind}

-- one more item after those made
pub made_more : {X Z : Type 0} (F : List X → List Z) (xs : List X) (i : ℕ) (x : X) (first : Z) (old new all : List Z) → i < length xs
    → x ≡ get_or xs i x → F (x ∷ drop (i + 1) xs) ≡ first ∷ F (drop (i + 1) xs) → new ≡ old ++ first ∷ [] →
    old ++ F (drop i xs) ≡ all → new ++ F (drop (i + 1) xs) ≡ all
made_more F xs i x first old new all within item step pushed before =
    let rest : List _ = F (drop (i + 1) xs) in
    let next : drop i xs ≡ x ∷ drop (i + 1) xs = drop_more xs i x within ∙ ap (λ (z : _). z ∷ drop (i + 1) xs) (sym item) in
    ap (λ (ys : List _). ys ++ rest) pushed ∙ (append_assoc old (first ∷ []) rest
    ∙ (ap (λ (zs : List _). old ++ zs) (sym step) ∙ (ap (λ (zs : List _). old ++ F zs) (sym next) ∙ before)))

-- all items are made
pub made_all : {X Z : Type 0} (F : List X → List Z) (xs : List X) (i : ℕ) (made all : List Z) → F [] ≡ [] → length xs ≤ i
    → made ++ F (drop i xs) ≡ all → made ≡ all
made_all F xs i made all last past before = sym (append-nil made)
    ∙ (ap (λ (zs : List _). made ++ zs) (sym last) ∙ (ap (λ (ys : List _). made ++ F ys) (sym (drop_all i xs past)) ∙ before))

-- one more image
pub image_more : {Y Z : Type 0} (h : Y → Z) (y : Y) (z : Z) (old new : List Y) → h y ≡ z → new ≡ old ++ y ∷ []
    → map h new ≡ map h old ++ z ∷ []
image_more h y z old new same pushed = ap (map h) pushed ∙ (map-append h old (y ∷ []) ∙ ap (λ (x : _). map h old ++ x ∷ []) same)

module _ {A B : Type 0} (f : A → Element B) where
  -- alternatives in order
  pub bound_either : (xs : List (Elements A)) → either_bind f (either xs) ≡ either (map (in_order_bind f) xs)
  bound_either [] = refl
  bound_either (x ∷ xs) = ap (or (in_order_bind f x)) (bound_either xs)

  -- elements one after another
  pub bound_in_order : (xs : List (Element A)) → in_order_bind f (in_order xs) ≡ in_order (map (bind f) xs)
  bound_in_order [] = refl
  bound_in_order (x ∷ xs) = ap (then (bind f x)) (bound_in_order xs)

  -- a block
  bound_repeated : (label : Option Label) (repeat : Repeat) (xs : List (Elements A))
      → bind f (block label repeat (either xs)) ≡ block label repeat (either (map (in_order_bind f) xs))
  bound_repeated label repeat xs = ap (block label repeat) (bound_either xs)

  -- an atom of the code
  pub bound_atom : (node : Node A) (a : A) (made : Node B) → node ≡ nodes.Atom a → element_of made ≡ f a
      → element_of made ≡ bind f (element_of node)
  bound_atom node a made is same = same ∙ sym (ap (λ (x : Node A). bind f (element_of x)) is ∙ ap (bind f) (of_atom a))

  -- a block of the code
  pub bound_block : (node : Node A) (label copy : Option Label) (repeat : Repeat) (alternatives : Vec (Side A) Global)
      (all : Vec (Side B) Global) (sides : List (Side A)) (i : ℕ) → node ≡ nodes.Block label repeat alternatives → copy ≡ label
      → sides ≡ alternatives.items → length sides ≤ i →
      map alternative_of all.items ++ map (in_order_bind f) (map alternative_of (drop i sides))
      ≡ map (in_order_bind f) (map alternative_of sides) → element_of (nodes.Block copy repeat all) ≡ bind f (element_of node)
  bound_block node label copy repeat alternatives all sides i is copied whole past before =
      let made : map alternative_of all.items ≡ map (in_order_bind f) (map alternative_of sides) =
      made_all (λ ys. map (in_order_bind f) (map alternative_of ys)) sides i (map alternative_of all.items)
      (map (in_order_bind f) (map alternative_of sides)) refl past before in
      of_block copy repeat all ∙ (ap (λ (l : Option Label). block l repeat (either (map alternative_of all.items))) copied
      ∙ (ap (λ (xs : List (Elements B)). block label repeat (either xs))
      (made ∙ ap (λ (ys : List (Side A)). map (in_order_bind f) (map alternative_of ys)) whole)
      ∙ (sym (bound_repeated label repeat (map alternative_of alternatives.items))
      ∙ sym (ap (λ (x : Node A). bind f (element_of x)) is ∙ ap (bind f) (of_block label repeat alternatives)))))

  -- an alternative of the code
  pub bound_side : (side : Side A) (elements : List (Node A)) (made : Vec (Node B) Global)
      → elements ≡ (out-Alternative A side).elements.items
      → in_order (map element_of made.items) ≡ in_order_bind f (in_order (map element_of elements)) →
      alternative_of (roll-Alternative B (record { elements = made })) ≡ in_order_bind f (alternative_of side)
  bound_side side elements made whole is =
      of_elements made ∙ (is ∙ (ap (λ (xs : List (Node A)). in_order_bind f (in_order (map element_of xs))) whole
      ∙ ap (in_order_bind f) (sym (of_alternative side))))
