-- What the code makes of primaries and operators, as trees.
use Rattle.std.proofs.Common.{◌≡◌, ℕ, List, [], ◌∷◌, ◌++◌, Bool, true, false, Option, Some, None, length, get_or, map, Vec, Global, refl, sym, ap, ◌∙◌, arith}
use Rattle.std.specs.List.{cons_option, filter_map, enumerate_from, range_with_len}
use Rattle.std.proofs.lemmas.List.{length-map, map-append}
use Rattle.g4_source.specs.declared.element.Alternative.{Alternative as Side, roll-Alternative}
use Rattle.g4_source.specs.declared.element.Element.{Element as Node}
use Rattle.g4_source.specs.declared.element.Element.TheVariants as nodes
use Rattle.g4_source.specs.declared.element.Repeat.TheVariants.{Once}
use Rattle.g4_source.specs.Elements.{Element, atom, block, Elements, empty, then, either}
use Rattle.g4_source.specs.Marks.{onto}
use Rattle.g4_source.specs.Trees.{alternative_of, element_of, in_order}
use Rattle.g4_source.proofs.Trees.{of_atom, of_block, of_elements}
use Rattle.g4_grammar.specs.declared.step.Step.TheVariants.{Empty}
use Rattle.g4_grammar.specs.StepRules.{StepRule}
use Rattle.g4_leftrec.specs.OwnCalls.{Part, after_self, is_left_recursive, is_some, operator_of, operator_with, primary_of, primary_with}
use Rattle.g4_leftrec.specs.OwnSteps.{calls}
use Rattle.g4_leftrec.specs.Rewriting.{StepIn, Written, after_primary, numbering_of, operator_elements, operator_form, precedence, primary_form, with_last_at}
use Rattle.g4_leftrec.proofs.LastCalls.{in_order_append}
use Rattle.g4_leftrec.proofs.Lists.{numbers_of}

-- elements in three parts
pub onto_onto : {A : Type 0} (xs ys zs : Elements A) → onto (onto xs ys) zs ≡ onto xs (onto ys zs)
onto_onto empty ys zs = refl
onto_onto (then x xs) ys zs = ap (then x) (onto_onto xs ys zs)

-- elements of the code with one more at their end, and then others
pub one_at_end : {A : Type 0} (xs : List (Node A)) (x : Node A) (more : Elements A)
    → onto (in_order (map element_of (xs ++ x ∷ []))) more ≡ onto (in_order (map element_of xs)) (then (element_of x) more)
one_at_end {A} xs x more =
    ap (λ (ys : List (Element A)). onto (in_order ys) more) (map-append element_of xs (x ∷ []))
    ∙ (ap (λ (ys : Elements A). onto ys more) (in_order_append (map element_of xs) (element_of x ∷ []))
    ∙ onto_onto (in_order (map element_of xs)) (then (element_of x) empty) more)

-- alternatives of the code with one more at their end
pub side_at_end : {A : Type 0} (old new : List (Side A)) (elements : Vec (Node A) Global) (tree : Elements A)
    → new ≡ old ++ roll-Alternative A (record { elements = elements }) ∷ [] → in_order (map element_of elements.items) ≡ tree →
    map alternative_of new ≡ map alternative_of old ++ tree ∷ []
side_at_end {A} old new elements tree pushed is =
    ap (map alternative_of) pushed ∙ (map-append alternative_of old (roll-Alternative A (record { elements = elements }) ∷ [])
    ∙ ap (λ (x : Elements A). map alternative_of old ++ x ∷ []) (of_elements elements ∙ is))

module _ (k n number : ℕ) where
  -- an operator, by what follows the rule itself
  operator_by : (o : Option (Elements StepIn)) (right : Bool) (tree : Elements StepIn) → is_some o ≡ true
      → ((rest : Elements StepIn) → o ≡ Some rest → tree ≡ operator_elements k (precedence n number) right rest) →
      tree ∷ [] ≡ map (operator_form k n) (cons_option (operator_with (calls k) number right o) [])
  operator_by None right tree h is = absurd (cc)
  operator_by (Some rest) right tree h is = ap (λ (x : Elements StepIn). x ∷ []) (is rest refl)

  -- a primary
  primary_by : {Z : Type 0} (f : Part StepIn → Z) (o : Option (Elements StepIn)) (right : Bool) (xs : Elements StepIn)
      → is_some o ≡ false → f (record { number = number; right = right; elements = xs }) ∷ []
      ≡ map f (cons_option (primary_with (calls k) number right xs o) [])
  primary_by f None right xs h = refl
  primary_by f (Some rest) right xs h = absurd (cc)

  -- the operators with one more
  pub operator_added : (a : Written) (old new : List (Side StepIn)) (elements : Vec (Node StepIn) Global)
      → is_some (after_self (calls k) a.elements) ≡ true →
      ((rest : Elements StepIn) → after_self (calls k) a.elements ≡ Some rest
      → in_order (map element_of elements.items) ≡ operator_elements k (precedence n number) a.right rest) →
      new ≡ old ++ roll-Alternative StepIn (record { elements = elements }) ∷ []
      → map alternative_of new ≡ map alternative_of old
      ++ map (operator_form k n) (filter_map (operator_of (calls k)) ((number, a) ∷ []))
  operator_added a old new elements begins is pushed =
      side_at_end old new elements (in_order (map element_of elements.items)) pushed refl
      ∙ ap (λ (xs : List (Elements StepIn)). map alternative_of old ++ xs)
      (operator_by (after_self (calls k) a.elements) a.right (in_order (map element_of elements.items)) begins is)

  -- the primaries with one more
  pub primary_added : (a : Written) (old new : List (Side StepIn)) (elements : Vec (Node StepIn) Global)
      → is_some (after_self (calls k) a.elements) ≡ false
      → in_order (map element_of elements.items) ≡ with_last_at k (precedence n number) a.elements →
      new ≡ old ++ roll-Alternative StepIn (record { elements = elements }) ∷ []
      → map alternative_of new ≡ map alternative_of old ++ map (primary_form k n) (filter_map (primary_of (calls k)) ((number, a) ∷ []))
  primary_added a old new elements begins is pushed =
      side_at_end old new elements (with_last_at k (precedence n number) a.elements) pushed is
      ∙ ap (λ (xs : List (Elements StepIn)). map alternative_of old ++ xs)
      (primary_by (primary_form k n) (after_self (calls k) a.elements) a.right a.elements begins)

-- a block of primaries that are not one
block_before : (ys : List (Elements StepIn)) (more : Elements StepIn) → (length ys ≡ 1 → ⊥)
    → then (block None Once (either ys)) more ≡ after_primary ys more
block_before [] more apart = refl
block_before (x ∷ []) more apart = absurd (apart refl)
block_before (x ∷ y ∷ ys) more apart = refl

-- the same of the code's
pub by_block : (primaries : Vec (Side StepIn) Global) (made : List (Node StepIn)) (more : Elements StepIn)
    → (length primaries.items ≡ 1 → ⊥) → made ≡ nodes.Block None Once primaries ∷ [] →
    onto (in_order (map element_of made)) more ≡ after_primary (map alternative_of primaries.items) more
by_block primaries made more apart is =
    ap (λ (ys : List (Node StepIn)). onto (in_order (map element_of ys)) more) is
    ∙ (ap (λ (y : Element StepIn). then y more) (of_block None Once primaries)
    ∙ block_before (map alternative_of primaries.items) more (λ e. apart (sym (length-map primaries.items alternative_of) ∙ e)))

-- a list of one item
one_item : {X : Type 0} (xs : List X) (x : X) → length xs ≡ 1 → x ≡ get_or xs 0 x → xs ≡ x ∷ []
one_item [] x h is = absurd (omega (arith, h))
one_item (y ∷ []) x h is = ap (λ (z : _). z ∷ []) (sym is)
one_item (y ∷ z ∷ xs) x h is = absurd (omega (arith, h))

-- the only primary and an empty step
pub by_only : (primaries : List (Side StepIn)) (elements : Vec (Node StepIn) Global) (made : List (Node StepIn))
    (more : Elements StepIn) → length primaries ≡ 1
    → roll-Alternative StepIn (record { elements = elements })
    ≡ get_or primaries 0 (roll-Alternative StepIn (record { elements = elements })) →
    made ≡ elements.items ++ nodes.Atom Empty ∷ []
    → onto (in_order (map element_of made)) more ≡ after_primary (map alternative_of primaries) more
by_only primaries elements made more one first is =
    let only : Side StepIn = roll-Alternative StepIn (record { elements = elements }) in
    ap (λ (ys : List (Node StepIn)). onto (in_order (map element_of ys)) more) is
    ∙ (one_at_end elements.items (nodes.Atom Empty) more
    ∙ (ap (λ (y : Element StepIn). onto (in_order (map element_of elements.items)) (then y more)) (of_atom Empty)
    ∙ (ap (λ (x : Elements StepIn). onto x (then (atom Empty) more)) (sym (of_elements elements))
    ∙ ap (λ (xs : List (Side StepIn)). after_primary (map alternative_of xs) more) (sym (one_item primaries only one first)))))

-- the numbering of a rule that stays as it is written
pub numbered_as_written : (k : ℕ) (rule : StepRule) (starts : List ℕ) (count : ℕ)
    → is_left_recursive (calls k) rule.alternatives ≡ false → count ≡ length rule.alternatives → starts ≡ range_with_len 1 count →
    record { starts = starts; count = count } ≡ numbering_of (k, rule)
numbered_as_written k rule starts count plain many is =
    let first : starts ≡ map (λ (x : ℕ × Written). x.0) (enumerate_from 1 rule.alternatives) =
    is ∙ (ap (range_with_len 1) many ∙ sym (numbers_of 1 rule.alternatives)) in
    rw (plain, many, first)
