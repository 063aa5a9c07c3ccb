-- The items of numbered lists, and the primaries and operators of a rule among its alternatives.
use Rattle.std.proofs.Common.{◌≡◌, ℕ, zero, suc, ◌+◌, List, [], ◌∷◌, Bool, true, false, cond, Option, Some, None, map, refl, sym, ◌∙◌, ap, arith, slice_get}
use Rattle.std.specs.List.{cons_option, enumerate_from, filter_map}
use Rattle.std.proofs.lemmas.Bool.Decides.{nat_tests}
use Rattle.g4_source.specs.Elements.{Element, atom, block, Elements, empty, then}
use Rattle.g4_grammar.specs.declared.step.Step.TheVariants.{Edge, Call, Predicate, Level, Action, Empty}
use Rattle.g4_leftrec.specs.OwnCalls.{Part, after_self, is_atom, operator_of, operator_with, operators, primaries, primary_of, primary_with}
use Rattle.g4_leftrec.specs.OwnSteps.{calls}
use Rattle.g4_leftrec.specs.Rewriting.{StepIn, Written}

-- an item of a list of which each item is made into another
pub map_item : {X Y : Type 0} (f : X → Y) (xs : List X) (j : ℕ) (y : Y) → slice_get (map f xs) j ≡ Some y
    → (x : X) × (slice_get xs j ≡ Some x) × (y ≡ f x)
map_item f [] j y is = absurd (let n : ⊥ = cc in n)
map_item f (x ∷ xs) zero y is = (x, refl, cc)
map_item f (x ∷ xs) (suc j) y is = map_item f xs j y is

-- what is made of an item
pub item_map : {X Y : Type 0} (f : X → Y) (xs : List X) (j : ℕ) (x : X) → slice_get xs j ≡ Some x → slice_get (map f xs) j ≡ Some (f x)
item_map f [] j x is = absurd (let n : ⊥ = cc in n)
item_map f (y ∷ xs) zero x is = let same : y ≡ x = cc in ap (λ (z : _). Some (f z)) same
item_map f (y ∷ xs) (suc j) x is = item_map f xs j x is

-- an item of a list that is numbered
pub numbered_item : {X : Type 0} (n : ℕ) (xs : List X) (j : ℕ) (y : ℕ × X) → slice_get (enumerate_from n xs) j ≡ Some y
    → (slice_get xs j ≡ Some y.1) × (y.0 ≡ n + j)
numbered_item n [] j y is = absurd (let k : ⊥ = cc in k)
numbered_item {X} n (x ∷ xs) zero y is = let same : ◌≡◌ {A = ℕ × X} (n, x) y = cc in
    (ap (λ (z : ℕ × X). Some z.1) same, let e = ap (λ (z : ℕ × X). z.0) same in omega (arith, e))
numbered_item n (x ∷ xs) (suc j) y is = let h = numbered_item (n + 1) xs j y is in (h.0, omega (arith, h.1))

-- a numbered item
pub item_numbered : {X : Type 0} (n : ℕ) (xs : List X) (j : ℕ) (x : X) → slice_get xs j ≡ Some x
    → slice_get (enumerate_from n xs) j ≡ Some (n + j, x)
item_numbered n [] j x is = absurd (let k : ⊥ = cc in k)
item_numbered {X} n (y ∷ xs) zero x is = let same : y ≡ x = cc in let here : n ≡ n + 0 = omega arith in
    ap (λ (z : X). Some (n, z)) same ∙ ap (λ (q : ℕ). Some (q, x)) here
item_numbered {X} n (y ∷ xs) (suc j) x is = let next : n + 1 + j ≡ n + suc j = omega arith in
    item_numbered (n + 1) xs j x is ∙ ap (λ (q : ℕ). Some (q, x)) next

-- an item of what is kept of a list
kept_front : {X Y : Type 0} (f : X → Option Y) (x : X) (xs : List X) (o : Option Y) → f x ≡ o → (i : ℕ) (y : Y)
    → slice_get (cons_option o (filter_map f xs)) i ≡ Some y →
    ((i : ℕ) → slice_get (filter_map f xs) i ≡ Some y → (j : ℕ) × (z : X) × (slice_get xs j ≡ Some z) × (f z ≡ Some y))
    → (j : ℕ) × (z : X) × (slice_get (x ∷ xs) j ≡ Some z) × (f z ≡ Some y)
kept_front f x xs None e i y is later = let h = later i is in (suc h.0, h.1, h.2, h.3)
kept_front f x xs (Some z) e zero y is later = (0, x, refl, let same : Some z ≡ Some y = is in e ∙ same)
kept_front f x xs (Some z) e (suc i) y is later = let h = later i is in (suc h.0, h.1, h.2, h.3)

-- is one of the list
pub kept_item : {X Y : Type 0} (f : X → Option Y) (xs : List X) (i : ℕ) (y : Y) → slice_get (filter_map f xs) i ≡ Some y
    → (j : ℕ) × (x : X) × (slice_get xs j ≡ Some x) × (f x ≡ Some y)
kept_item f [] i y is = absurd (let n : ⊥ = cc in n)
kept_item f (x ∷ xs) i y is = kept_front f x xs (f x) refl i y is (λ j e. kept_item f xs j y e)

module _ (k : ℕ) where
  -- an operator is what follows the rule itself
  operator_parts : (number : ℕ) (right : Bool) (o : Option (Elements StepIn)) (x : Part StepIn)
      → operator_with (calls k) number right o ≡ Some x → (x.number ≡ number) × (o ≡ Some x.elements)
  operator_parts number right None x is = absurd (let n : ⊥ = cc in n)
  operator_parts number right (Some rest) x is =
      let same : record { number = number; right = right; elements = rest } ≡ x = cc in
      (sym (ap (λ (y : Part StepIn). y.number) same), ap (λ (y : Part StepIn). Some y.elements) same)

  -- a primary is all of an alternative
  primary_parts : (number : ℕ) (right : Bool) (xs : Elements StepIn) (o : Option (Elements StepIn)) (x : Part StepIn)
      → primary_with (calls k) number right xs o ≡ Some x → (x.number ≡ number) × (x.elements ≡ xs)
  primary_parts number right xs (Some rest) x is = absurd (let n : ⊥ = cc in n)
  primary_parts number right xs None x is =
      let same : record { number = number; right = right; elements = xs } ≡ x = cc in
      (sym (ap (λ (y : Part StepIn). y.number) same), sym (ap (λ (y : Part StepIn). y.elements) same))

  -- an operator is that of one of the alternatives, by its number
  pub operator_item : (alternatives : List Written) (i : ℕ) (x : Part StepIn) → slice_get (operators (calls k) alternatives) i ≡ Some x →
      (j : ℕ) × (a : Written) × (slice_get alternatives j ≡ Some a) × (x.number ≡ j + 1)
      × (after_self (calls k) a.elements ≡ Some x.elements)
  operator_item alternatives i x is =
      let h = kept_item (operator_of (calls k)) (enumerate_from 1 alternatives) i x is in
      let n = numbered_item 1 alternatives h.0 h.1 h.2 in
      let p = operator_parts h.1.0 h.1.1.right (after_self (calls k) h.1.1.elements) x h.3 in
      (h.0, h.1.1, n.0, omega (arith, p.0, n.1), p.1)

  -- and so is a primary
  pub primary_item : (alternatives : List Written) (i : ℕ) (x : Part StepIn) → slice_get (primaries (calls k) alternatives) i ≡ Some x →
      (j : ℕ) × (a : Written) × (slice_get alternatives j ≡ Some a) × (x.number ≡ j + 1) × (x.elements ≡ a.elements)
  primary_item alternatives i x is =
      let h = kept_item (primary_of (calls k)) (enumerate_from 1 alternatives) i x is in
      let n = numbered_item 1 alternatives h.0 h.1 h.2 in
      let p = primary_parts h.1.0 h.1.1.right h.1.1.elements (after_self (calls k) h.1.1.elements) x h.3 in
      (h.0, h.1.1, n.0, omega (arith, p.0, n.1), p.1)

  -- the first of the elements, where it is the rule itself
  first_call : (x : Element StepIn) (xs rest : Elements StepIn) (b : Bool) → is_atom (calls k) x ≡ b
      → cond b (Some xs) None ≡ Some rest → (level : ℕ) × (then x xs ≡ then (atom (Call k level)) rest)
  first_call x xs rest false own is = absurd (let n : ⊥ = cc in n)
  first_call (block label repeat ys) xs rest true own is = absurd (let n : ⊥ = cc in n)
  first_call (atom (Edge label)) xs rest true own is = absurd (let n : ⊥ = cc in n)
  first_call (atom (Predicate n)) xs rest true own is = absurd (let n : ⊥ = cc in n)
  first_call (atom (Level q)) xs rest true own is = absurd (let n : ⊥ = cc in n)
  first_call (atom Action) xs rest true own is = absurd (let n : ⊥ = cc in n)
  first_call (atom Empty) xs rest true own is = absurd (let n : ⊥ = cc in n)
  first_call (atom (Call rule level)) xs rest true own is = let same : rule ≡ k = grind (arith, nat_tests) in
      let more : xs ≡ rest = cc in (level, let e : then (atom (Call rule level)) xs ≡ then (atom (Call k level)) rest = cc in e)

  -- elements that begin with the rule itself
  pub begins_with_call : (xs rest : Elements StepIn) → after_self (calls k) xs ≡ Some rest
      → (level : ℕ) × (xs ≡ then (atom (Call k level)) rest)
  begins_with_call empty rest is = absurd (let n : ⊥ = cc in n)
  begins_with_call (then x xs) rest is = first_call x xs rest (is_atom (calls k) x) refl is
