-- The states of elements of the code, a layer at a time.
use Rattle.std.specs.Option.{MatchOption, SomeIff}
use Rattle.std.proofs.Common.{◌≡◌, ℕ, ◌+◌, ◌-◌, Option, Some, None, ◌<◌, ◌≤◌, ◌⊎◌, inl, inr, List, [], ◌∷◌, length, map, drop, get_or, refl, sym, ◌∙◌, ap, arith, sum_by}
use Rattle.std.proofs.lemmas.List.{at_drop_more}
use Rattle.std.proofs.lemmas.List.Sums.{sum_by-cons}
use Rattle.g4_source.specs.declared.name.Label.{Label}
use Rattle.g4_source.specs.declared.element.Repeat.{Repeat}
use Rattle.g4_source.specs.declared.element.Repeat.TheVariants.{Once, Optional, Star, Plus}
use Rattle.g4_source.specs.Elements.{Element, block, Elements, Alternatives, either}
use Rattle.g4_source.specs.Trees.{in_order}
use Rattle.g4_layout.specs.Size.{states_by, states_in_order_by, states_of_bodies_by, states_of_rule_by}
use Rattle.g4_states.specs.Drafts.{states_of_block_by}

-- a block's label makes no state
pub count_block : {A : Type 0} (weight : A → ℕ) (label : Option Label) (repeat : Repeat) (xs : Alternatives A)
    → states_by weight (block label repeat xs) ≡ states_of_block_by weight repeat xs
count_block weight label Once xs = refl
count_block weight label (Optional sign) xs = refl
count_block weight label (Star sign) xs = refl
count_block weight label (Plus sign) xs = refl

-- a rule of one alternative
pub count_lone_rule : {X A : Type 0} (weight : A → ℕ) (tree : X → Elements A) (xs : List X) (d : X) (run : Elements A) → 1 ≤ length xs
    → length xs < 2 → d ≡ get_or xs 0 d → run ≡ tree d →
    states_of_rule_by weight (either (map tree xs)) ≡ states_in_order_by weight run
count_lone_rule weight tree [] d run low high at is = absurd (omega arith)
count_lone_rule weight tree (x ∷ []) d run low high at is = ap (states_in_order_by weight) (ap tree (sym at) ∙ sym is)
count_lone_rule weight tree (x ∷ y ∷ more) d run low high at is = absurd (omega arith)

-- a block of one alternative
pub count_lone : {X A : Type 0} (weight : A → ℕ) (tree : X → Elements A) (xs : List X) (d : X) (run : Elements A) → 1 ≤ length xs
    → length xs < 2 → d ≡ get_or xs 0 d → run ≡ tree d →
    states_of_block_by weight Once (either (map tree xs)) ≡ states_in_order_by weight run
count_lone weight tree [] d run low high at is = absurd (omega arith)
count_lone weight tree (x ∷ []) d run low high at is = omega (arith, count_lone_rule weight tree (x ∷ []) d run low high at is)
count_lone weight tree (x ∷ y ∷ more) d run low high at is = absurd (omega arith)

-- a block of several
pub count_several : {X A : Type 0} (weight : A → ℕ) (tree : X → Elements A) (xs : List X) → 2 ≤ length xs
    → states_of_block_by weight Once (either (map tree xs)) ≡ states_of_bodies_by weight (either (map tree xs)) + 1
count_several weight tree [] low = absurd (omega arith)
count_several weight tree (x ∷ []) low = absurd (omega arith)
count_several weight tree (x ∷ y ∷ more) low = omega arith

-- a block of none
pub count_nothing : {X A : Type 0} (weight : A → ℕ) (tree : X → Elements A) (xs : List X) → length xs < 1
    → states_of_block_by weight Once (either (map tree xs)) ≡ 0
count_nothing weight tree [] low = refl
count_nothing weight tree (x ∷ xs) low = absurd (omega arith)

-- a rule of any other number
pub count_other_rule : {X A : Type 0} (weight : A → ℕ) (tree : X → Elements A) (xs : List X) → (length xs < 1) ⊎ (2 ≤ length xs)
    → states_of_rule_by weight (either (map tree xs)) ≡ states_of_bodies_by weight (either (map tree xs))
count_other_rule weight tree [] many = refl
count_other_rule weight tree (x ∷ []) many = elim many [ inl h ↦ absurd (omega arith) | inr h ↦ absurd (omega arith) ]
count_other_rule weight tree (x ∷ y ∷ more) many = refl

-- the next of alternatives
pub count_next : {X A : Type 0} (weight : A → ℕ) (tree : X → Elements A) (xs : List X) (i : ℕ) (d : X) (run : Elements A)
    → i < length xs → d ≡ get_or xs i d → run ≡ tree d →
    states_of_bodies_by weight (either (map tree (drop i xs)))
    ≡ 1 + states_in_order_by weight run + states_of_bodies_by weight (either (map tree (drop (i + 1) xs)))
count_next {X} weight tree xs i d run less at is =
    let e = at_drop_more (λ (zs : List X). states_of_bodies_by weight (either (map tree zs))) xs i d less in
    let f = ap (states_in_order_by weight) (is ∙ ap tree at) in
    omega (arith, e, f)

-- the next of elements
pub count_next_element : {X A : Type 0} (weight : A → ℕ) (tree : X → Element A) (xs : List X) (i : ℕ) (d : X) → i < length xs
    → d ≡ get_or xs i d →
    states_in_order_by weight (in_order (map tree (drop i xs)))
    ≡ states_by weight (tree d) + states_in_order_by weight (in_order (map tree (drop (i + 1) xs)))
count_next_element {X} weight tree xs i d less at =
    let e = at_drop_more (λ (zs : List X). states_in_order_by weight (in_order (map tree zs))) xs i d less in
    let f = ap (λ (z : X). states_by weight (tree z)) at in
    omega (arith, e, f)

-- none are left where a part of them is too many
pub none_left : (r : Option ℕ) (spare part count : ℕ) → r ≡ None → spare < part → part ≤ count
    → MatchOption r (spare < count) (λ left. left + count ≡ spare)
none_left r spare part count is less more = rw is (omega arith)

-- the same of an equal count
pub left_of : (r : Option ℕ) (spare n m : ℕ) → n ≡ m → MatchOption r (spare < n) (λ left. left + n ≡ spare)
    → MatchOption r (spare < m) (λ left. left + m ≡ spare)
left_of r spare n m e h = rw (sym e) h

-- k more are taken
pub less_some : (r : Option ℕ) (spare left n k m : ℕ) → SomeIff r (k ≤ left) (left - k) → left + n ≡ spare → n + k ≡ m
    → MatchOption r (spare < m) (λ left. left + m ≡ spare)
less_some None spare left n k m is e more = omega (arith, is)
less_some (Some rest) spare left n k m is e more = omega (arith, is.0, is.1)

-- the next of the rules
pub count_next_rule : {X : Type 0} (states : X → ℕ) (xs : List X) (i : ℕ) (d : X) (n : ℕ) → i < length xs → d ≡ get_or xs i d
    → states d ≡ n → sum_by states (drop i xs) ≡ n + sum_by states (drop (i + 1) xs)
count_next_rule {X} states xs i d n less at is =
    let e = at_drop_more (λ (zs : List X). sum_by states zs) xs i d less in
    let g = ap states at in
    let k = sum_by-cons states (get_or xs i d) (drop (i + 1) xs) in
    omega (arith, e, g, k, is)
