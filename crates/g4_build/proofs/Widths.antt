-- Decisions with too many alternatives, by what the elements are made of.
use Rattle.std.proofs.Common.{◌≡◌, ℕ, ◌+◌, ◌<◌, ◌≤◌, ◌⊎◌, ◌↔◌, inl, inr, List, [], ◌∷◌, length, map, drop, get_or, Bool, true, false, refl, sym, ◌∙◌, ap, subst, arith, IsTrue, Option, None, Vec, Global}
use Rattle.std.proofs.lemmas.List.{at_drop_more, at_drop_all}
use Rattle.g4_source.specs.declared.name.Label.{Label}
use Rattle.g4_source.specs.declared.element.Repeat.{Repeat}
use Rattle.g4_source.specs.declared.element.Repeat.TheVariants.{Once, Optional, Star, Plus}
use Rattle.g4_source.specs.declared.element.Element.{Element as Node}
use Rattle.g4_source.specs.declared.element.Element.TheVariants as nodes
use Rattle.g4_source.specs.declared.element.Alternative.{Alternative as Side}
use Rattle.g4_source.specs.Elements.{Element, block, Elements, Alternatives, either}
use Rattle.g4_source.specs.Trees.{element_of, alternative_of, in_order}
use Rattle.g4_source.specs.declared.rule.RuleAlternative.{RuleAlternative}
use Rattle.g4_source.specs.declared.rule.ParserRule.{ParserRule}
use Rattle.g4_source.specs.Rules.{alternatives_of}
use Rattle.g4_layout.specs.Decisions.{number_of, HasDecision, OneHasDecision, SomeHasDecision, RuleHasDecision, RulesHaveDecision, AreNarrow, IsTooWide, IsWide, ways_to_exit}
use Rattle.g4_states.proofs.Trees.{plain_atom, plain_block, next_of, none_of, next_item, no_item}

-- there are as many alternatives as the code has
number_of_sides : {X A : Type 0} (tree : X → Elements A) (xs : List X) → number_of (either (map tree xs)) ≡ length xs
number_of_sides tree [] = refl
number_of_sides tree (x ∷ xs) = omega (arith, number_of_sides tree xs)

-- What is passed has no decision with too many alternatives: all have one where the rest has.
pub record NotYet (All Rest : ℕ → Type 0) : Type 0 where
  pub to : IsWide Rest → IsWide All
  pub from : IsWide All → IsWide Rest

-- at first all are left
pub first_left : (P : ℕ → Type 0) → NotYet P P
first_left P = record { to = λ h. h; from = λ h. h }

-- one more is passed: a test shows that it has no such decision
pub one_passed : (All This Next : ℕ → Type 0) (test : Bool) → IsTrue test ↔ IsWide This → test ≡ false
    → NotYet All (λ n. This n ⊎ Next n) → NotYet All Next
one_passed All This Next test told fails w = record {
  to = λ h. w.to (h.0, inr h.1, h.2);
  from = λ h. let r = w.from h in elim r.1 [
    | inl this ↦ absurd (let e : test ≡ true = told.1 (r.0, this, r.2) in cc)
    | inr next ↦
        (r.0, next, r.2)
  ];
}

-- one is found: a test shows that it has such a decision
pub one_found : (All This Next : ℕ → Type 0) (test : Bool) → IsTrue test ↔ IsWide This → test ≡ true
    → NotYet All (λ n. This n ⊎ Next n) → IsTrue true ↔ IsWide All
one_found All This Next test told holds w = (λ h. let this = told.0 holds in w.to (this.0, inl this.1, this.2), λ h. refl)

-- an atom makes no decision
pub atom_not_wide : {A : Type 0} (x : Node A) (a : A) → x ≡ nodes.Atom a → IsWide (HasDecision (element_of x)) → ⊥
atom_not_wide {A} x a is h = (subst (λ (y : Element A). IsWide (HasDecision y)) (plain_atom x a is) h).1

-- of a block with this repeat, its own decision or one inside
wide_repeated : {A : Type 0} (label : Option Label) (repeat : Repeat) (xs : Alternatives A)
    → IsWide (HasDecision (block label repeat xs)) ↔ ((1024 < number_of xs + ways_to_exit repeat) ⊎ IsWide (SomeHasDecision xs))
wide_repeated label Once xs = (
  λ h. elim h.1 [ inl own ↦ inl (omega (arith, h.2, own.1)) | inr inside ↦ inr (h.0, inside, h.2) ],
  λ h. elim h [
    | inl many ↦ (number_of xs, inl (omega (arith, many), refl), omega (arith, many))
    | inr inside ↦
        (inside.0, inr inside.1, inside.2)
  ],
)
wide_repeated label (Optional sign) xs = (
  λ h. elim h.1 [ inl own ↦ inl (omega (arith, h.2, own)) | inr inside ↦ inr (h.0, inside, h.2) ],
  λ h. elim h [ inl many ↦ (number_of xs + 1, inl refl, many) | inr inside ↦ (inside.0, inr inside.1, inside.2) ],
)
wide_repeated label (Star sign) xs = (
  λ h. elim h.1 [ inl own ↦ inl (omega (arith, h.2, own)) | inr inside ↦ inr (h.0, inside, h.2) ],
  λ h. elim h [ inl many ↦ (number_of xs + 1, inl refl, many) | inr inside ↦ (inside.0, inr inside.1, inside.2) ],
)
wide_repeated label (Plus sign) xs = (
  λ h. elim h.1 [
    | inl own ↦ inl (omega (arith, h.2, own.1))
    | inr rest ↦ elim rest
        [ inl own ↦ inl (omega (arith, h.2, own)) | inr inside ↦ inr (h.0, inside, h.2) ]
  ],
  λ h. elim h [ inl many ↦ (number_of xs + 1, inr (inl refl), many) | inr inside ↦ (inside.0, inr (inr inside.1), inside.2) ],
)

-- the same of a block of the code
pub wide_block : {A : Type 0} (x : Node A) (label : Option Label) (repeat : Repeat) (alternatives : Vec (Side A) Global)
    (xs : List (Side A)) → x ≡ nodes.Block label repeat alternatives → xs ≡ alternatives.items →
    IsWide (HasDecision (element_of x)) ↔ ((1024 < length xs + ways_to_exit repeat)
    ⊎ IsWide (SomeHasDecision (either (map alternative_of xs))))
wide_block {A} x label repeat alternatives xs is items =
    let sides : Alternatives A = either (map alternative_of xs) in
    let h = subst (λ (n : ℕ). IsWide (HasDecision (block label repeat sides))
    ↔ ((1024 < n + ways_to_exit repeat) ⊎ IsWide (SomeHasDecision sides))) (number_of_sides alternative_of xs)
    (wide_repeated label repeat sides) in
    subst (λ (y : Element A). IsWide (HasDecision y) ↔ ((1024 < length xs + ways_to_exit repeat) ⊎ IsWide (SomeHasDecision sides)))
    (sym (plain_block x label repeat alternatives xs is items)) h

-- of a rule, its own decision or one inside
pub wide_rule : {A : Type 0} (rule : ParserRule A) (xs : List (RuleAlternative A)) → xs ≡ rule.alternatives →
    IsWide (RuleHasDecision (alternatives_of rule))
    ↔ ((1024 < length xs + ways_to_exit Once) ⊎ IsWide (SomeHasDecision (either (map (λ a. a.elements) xs))))
wide_rule {A} rule xs is =
    let tree : RuleAlternative A → Elements A = λ a. a.elements in
    let sides : Alternatives A = either (map tree xs) in
    let h = subst (λ (n : ℕ). IsWide (HasDecision (block None Once sides))
    ↔ ((1024 < n + ways_to_exit Once) ⊎ IsWide (SomeHasDecision sides))) (number_of_sides tree xs) (wide_repeated None Once sides) in
    subst (λ (ys : List (RuleAlternative A)). IsWide (RuleHasDecision (either (map tree ys)))
    ↔ ((1024 < length xs + ways_to_exit Once) ⊎ IsWide (SomeHasDecision sides))) is h

-- where the first test holds, it decides
pub told_first : (P Q R : Type 0) (b : Bool) → R ↔ (P ⊎ Q) → IsTrue b ↔ P → b ≡ true → IsTrue b ↔ R
told_first P Q R b either first holds = (λ h. either.1 (inl (first.0 h)), λ h. holds)

-- where the first test fails, the second decides
pub told_second : (P Q R : Type 0) (a b : Bool) → R ↔ (P ⊎ Q) → IsTrue a ↔ P → a ≡ false → IsTrue b ↔ Q → IsTrue b ↔ R
told_second P Q R a b either first fails second = (
  λ h. either.1 (inr (second.0 h)),
  λ h. elim (either.0 h) [ inl p ↦ absurd (let e : a ≡ true = first.1 p in cc) | inr q ↦ second.1 q ],
)

-- the next of alternatives
pub next_sides : {X A : Type 0} (tree : X → Elements A) (All : ℕ → Type 0) (xs : List X) (i : ℕ) (d : X) (run : Elements A)
    → i < length xs → d ≡ get_or xs i d → run ≡ tree d →
    NotYet All (SomeHasDecision (either (map tree (drop i xs))))
    → NotYet All (λ n. OneHasDecision run n ⊎ SomeHasDecision (either (map tree (drop (i + 1) xs))) n)
next_sides {X} {A} tree All xs i d run less at is w =
    subst (λ (z : Alternatives A). NotYet All (SomeHasDecision z)) (next_of tree xs i d run less at is) w

-- the next of elements
pub next_elements : {A : Type 0} (All : ℕ → Type 0) (xs : List (Node A)) (i : ℕ) (d : Node A) → i < length xs → d ≡ get_or xs i d →
    NotYet All (OneHasDecision (in_order (map element_of (drop i xs))))
    → NotYet All (λ n. HasDecision (element_of d) n ⊎ OneHasDecision (in_order (map element_of (drop (i + 1) xs))) n)
next_elements {A} All xs i d less at w = subst (λ (z : Elements A). NotYet All (OneHasDecision z)) (next_item element_of xs i d less at) w

-- the next of rules
pub next_rules : {A : Type 0} (All : ℕ → Type 0) (xs : List (ParserRule A)) (i : ℕ) (d : ParserRule A) → i < length xs → d ≡ get_or xs i d →
    NotYet All (RulesHaveDecision (map alternatives_of (drop i xs)))
    → NotYet All (λ n. RuleHasDecision (alternatives_of d) n ⊎ RulesHaveDecision (map alternatives_of (drop (i + 1) xs)) n)
next_rules {A} All xs i d less at w =
    let split : map alternatives_of (drop i xs) ≡ alternatives_of d ∷ map alternatives_of (drop (i + 1) xs) =
    at_drop_more (λ (zs : List (ParserRule A)). map alternatives_of zs) xs i d less
    ∙ ap (λ (y : ParserRule A). alternatives_of y ∷ map alternatives_of (drop (i + 1) xs)) (sym at) in
    subst (λ (z : List (Alternatives A)). NotYet All (RulesHaveDecision z)) split w

-- no alternative is left
pub sides_narrow : {X A : Type 0} (tree : X → Elements A) (All : ℕ → Type 0) (xs : List X) (i : ℕ) → length xs ≤ i
    → NotYet All (SomeHasDecision (either (map tree (drop i xs)))) → IsWide All → ⊥
sides_narrow {X} {A} tree All xs i past w h =
    (subst (λ (z : Alternatives A). IsWide (SomeHasDecision z)) (none_of tree xs i past) (w.from h)).1

-- no element is left
pub elements_narrow : {A : Type 0} (All : ℕ → Type 0) (xs : List (Node A)) (i : ℕ) → length xs ≤ i
    → NotYet All (OneHasDecision (in_order (map element_of (drop i xs)))) → IsWide All → ⊥
elements_narrow {A} All xs i past w h = (subst (λ (z : Elements A). IsWide (OneHasDecision z)) (no_item element_of xs i past) (w.from h)).1

-- no rule is left
pub rules_narrow : {A : Type 0} (All : ℕ → Type 0) (xs : List (ParserRule A)) (i : ℕ) → length xs ≤ i
    → NotYet All (RulesHaveDecision (map alternatives_of (drop i xs))) → IsWide All → ⊥
rules_narrow {A} All xs i past w h = (subst (λ (z : List (Alternatives A)). IsWide (RulesHaveDecision z))
    (at_drop_all (λ (zs : List (ParserRule A)). map alternatives_of zs) xs i past) (w.from h)).1

-- rules without such a decision are narrow
pub narrow : {A : Type 0} (rules : List (Alternatives A)) (wide : Bool) → IsTrue wide ↔ IsTooWide rules → wide ≡ false → AreNarrow rules
narrow rules wide told fails n has = elim (cut n 1024)
    [ inl low ↦ low | inr high ↦ absurd (let e : wide ≡ true = told.1 (n, has, high) in let k : ⊥ = cc in k) ]
  where
    cut : (n m : ℕ) → (n ≤ m) ⊎ (m < n)
    cut n m = grind arith
