-- The last element of an alternative, looked for from the end.
use Rattle.std.proofs.Common.{◌≡◌, ℕ, ◌+◌, ◌<◌, ◌≤◌, List, [], ◌∷◌, ◌++◌, Bool, true, false, ◌&&◌, Some, None, length, get_or, set, take, drop, map, refl, sym, ap, ◌∙◌, subst, arith}
use Rattle.std.proofs.lemmas.List.{drop_more, drop_all, map-append, take-append-drop, take-set, drop-set}
use Rattle.g4_source.specs.Elements.{Element, Elements, empty, then}
use Rattle.g4_source.specs.Marks.{onto}
use Rattle.g4_source.specs.Trees.{element_of, in_order}
use Rattle.g4_source.specs.declared.element.Element.{Element as Node}
use Rattle.g4_leftrec.specs.OwnCalls.{after_self, are_silent, before_self, is_atom, is_some, with_first}

and_false : (b : Bool) → (b && false) ≡ false
and_false true = refl
and_false false = refl

and_left : (a b : Bool) → (a && b) ≡ true → a ≡ true
and_left true b h = refl
and_left false b h = h

and_right : (a b : Bool) → (a && b) ≡ true → b ≡ true
and_right true b h = h
and_right false b h = absurd (cc)

-- elements one after another in two parts
pub in_order_append : {A : Type 0} (xs ys : List (Element A)) → in_order (xs ++ ys) ≡ onto (in_order xs) (in_order ys)
in_order_append [] ys = refl
in_order_append (x ∷ xs) ys = ap (then x) (in_order_append xs ys)

-- the elements of the code around one of them
around : {A : Type 0} (xs ys : List (Node A)) (x : Node A)
    → in_order (map element_of (xs ++ x ∷ ys)) ≡ onto (in_order (map element_of xs)) (then (element_of x) (in_order (map element_of ys)))
around {A} xs ys x = ap (λ (zs : List (Element A)). in_order zs) (map-append element_of xs (x ∷ ys))
    ∙ in_order_append (map element_of xs) (element_of x ∷ map element_of ys)

-- the elements around the one at a place
pub around_place : {A : Type 0} (xs : List (Node A)) (i : ℕ) (x : Node A) → i < length xs → x ≡ get_or xs i x
    → in_order (map element_of xs) ≡ onto (in_order (map element_of (take i xs)))
    (then (element_of x) (in_order (map element_of (drop (i + 1) xs))))
around_place {A} xs i x within item =
    let next : drop i xs ≡ x ∷ drop (i + 1) xs = drop_more xs i x within ∙ ap (λ (y : Node A). y ∷ drop (i + 1) xs) (sym item) in
    let parts : xs ≡ take i xs ++ x ∷ drop (i + 1) xs = sym (take-append-drop i xs) ∙ ap (λ (ys : List (Node A)). take i xs ++ ys) next in
    ap (λ (ys : List (Node A)). in_order (map element_of ys)) parts ∙ around (take i xs) (drop (i + 1) xs) x

-- the elements with another at a place
pub around_other : {A : Type 0} (xs : List (Node A)) (i : ℕ) (y : Node A) → i < length xs
    → in_order (map element_of (set xs i y)) ≡ onto (in_order (map element_of (take i xs)))
    (then (element_of y) (in_order (map element_of (drop (i + 1) xs))))
around_other {A} xs i y within =
    let new : List (Node A) = set xs i y in
    let parts : new ≡ take i xs ++ y ∷ drop (i + 1) xs =
    sym (take-append-drop i new) ∙ (ap (λ (ys : List (Node A)). ys ++ drop i new) (take-set xs i y)
    ∙ ap (λ (ys : List (Node A)). take i xs ++ ys) (drop-set xs i y within)) in
    ap (λ (ys : List (Node A)). in_order (map element_of ys)) parts ∙ around (take i xs) (drop (i + 1) xs) y

-- elements at the end that have been passed: all are silent, and none is the rule itself
pub record IsPassed {A : Type 0} (is_self is_silent : A → Bool) (xs : Elements A) : Type 0 where
  pub silent : are_silent is_silent xs ≡ true
  pub none : before_self is_self is_silent xs ≡ None

-- an alternative that begins with the rule itself has an element
pub some_element : {A : Type 0} (is_self : A → Bool) (xs : List (Node A))
    → is_some (after_self is_self (in_order (map element_of xs))) ≡ true → 0 < length xs
some_element is_self [] h = absurd (cc)
some_element is_self (x ∷ xs) h = omega arith

module _ {A : Type 0} (is_self is_silent : A → Bool) where
  -- an element that is not silent is among the elements
  not_silent : (ys : Elements A) (x : Element A) (zs : Elements A) → is_atom is_silent x ≡ false
      → are_silent is_silent (onto ys (then x zs)) ≡ false
  not_silent empty x zs loud = ap (λ (b : Bool). b && are_silent is_silent zs) loud
  not_silent (then y ys) x zs loud = ap (λ (b : Bool). is_atom is_silent y && b) (not_silent ys x zs loud) ∙ and_false (is_atom is_silent y)

  -- the last that is not silent is the rule itself
  found : (ys : Elements A) (x : Element A) (zs : Elements A) → is_atom is_self x ≡ true → is_atom is_silent x ≡ false
      → are_silent is_silent zs ≡ true → before_self is_self is_silent (onto ys (then x zs)) ≡ Some (record { before = ys; trailing = zs })
  found empty x zs own loud quiet = rw (quiet, own)
  found (then y ys) x zs own loud quiet = rw (not_silent ys x zs loud) (ap (with_first y) (found ys x zs own loud quiet))

  -- or it is not
  not_found : (ys : Elements A) (x : Element A) (zs : Elements A) → is_atom is_self x ≡ false → is_atom is_silent x ≡ false
      → are_silent is_silent zs ≡ true → before_self is_self is_silent (onto ys (then x zs)) ≡ None
  not_found empty x zs other loud quiet = rw (quiet, other)
  not_found (then y ys) x zs other loud quiet = rw (not_silent ys x zs loud) (ap (with_first y) (not_found ys x zs other loud quiet))

  -- nothing has been passed
  pub passed_none : (xs : List (Node A)) (i : ℕ) → length xs ≤ i → IsPassed is_self is_silent (in_order (map element_of (drop i xs)))
  passed_none xs i past =
      subst (λ (ys : List (Node A)). IsPassed is_self is_silent (in_order (map element_of ys))) (sym (drop_all i xs past))
      (record { silent = refl; none = refl })

  -- one more element
  one_more : (x : Element A) (xs : Elements A) → is_atom is_self x ≡ false → is_atom is_silent x ≡ true
      → are_silent is_silent xs ≡ true → IsPassed is_self is_silent (then x xs)
  one_more x xs other silent_one quiet = record {
    silent = ap (λ (b : Bool). b && are_silent is_silent xs) silent_one ∙ quiet;
    none = rw (quiet, other);
  }

  -- one more is passed
  pub passed_more : (xs : List (Node A)) (i : ℕ) (x : Node A) → i < length xs → x ≡ get_or xs i x
      → is_atom is_self (element_of x) ≡ false → is_atom is_silent (element_of x) ≡ true
      → IsPassed is_self is_silent (in_order (map element_of (drop (i + 1) xs))) →
      IsPassed is_self is_silent (in_order (map element_of (drop i xs)))
  passed_more xs i x within item other silent_one before =
      let next : drop i xs ≡ x ∷ drop (i + 1) xs = drop_more xs i x within ∙ ap (λ (y : Node A). y ∷ drop (i + 1) xs) (sym item) in
      subst (λ (ys : List (Node A)). IsPassed is_self is_silent (in_order (map element_of ys))) (sym next)
      (one_more (element_of x) (in_order (map element_of (drop (i + 1) xs))) other silent_one before.silent)

  -- the rule itself at a place, where all after it has been passed
  pub found_at : (xs : List (Node A)) (i : ℕ) (x : Node A) → i < length xs → x ≡ get_or xs i x → is_atom is_self (element_of x) ≡ true
      → is_atom is_silent (element_of x) ≡ false → IsPassed is_self is_silent (in_order (map element_of (drop (i + 1) xs))) →
      before_self is_self is_silent (in_order (map element_of xs))
      ≡ Some (record { before = in_order (map element_of (take i xs)); trailing = in_order (map element_of (drop (i + 1) xs)) })
  found_at xs i x within item own loud passed =
      ap (before_self is_self is_silent) (around_place xs i x within item)
      ∙ found (in_order (map element_of (take i xs))) (element_of x) (in_order (map element_of (drop (i + 1) xs))) own loud
      passed.silent

  -- another element
  pub not_found_at : (xs : List (Node A)) (i : ℕ) (x : Node A) → i < length xs → x ≡ get_or xs i x
      → is_atom is_self (element_of x) ≡ false → is_atom is_silent (element_of x) ≡ false
      → IsPassed is_self is_silent (in_order (map element_of (drop (i + 1) xs))) →
      before_self is_self is_silent (in_order (map element_of xs)) ≡ None
  not_found_at xs i x within item other loud passed =
      ap (before_self is_self is_silent) (around_place xs i x within item)
      ∙ not_found (in_order (map element_of (take i xs))) (element_of x) (in_order (map element_of (drop (i + 1) xs))) other loud
      passed.silent

  -- silent elements alone have no last one
  pub silent_none : ((x : Element A) → is_atom is_silent x ≡ true → is_atom is_self x ≡ false) → (xs : Elements A)
      → are_silent is_silent xs ≡ true → before_self is_self is_silent xs ≡ None
  silent_none apart empty h = refl
  silent_none apart (then x xs) h =
      let quiet : are_silent is_silent xs ≡ true = and_right (is_atom is_silent x) (are_silent is_silent xs) h in
      let other : is_atom is_self x ≡ false = apart x (and_left (is_atom is_silent x) (are_silent is_silent xs) h) in
      rw (quiet, other)
