-- What holds of a tree over other atoms holds of the tree itself, and back, where an atom reads the empty word and calls a rule
-- exactly where the atom that it becomes does.
use Rattle.std.proofs.Common.{◌≡◌, ◌↔◌, ℕ, zero, suc, List, [], ◌∷◌, map, inl, inr, Some, refl, ap, ◌∙◌, subst}
use Rattle.std.specs.List.{slice_get}
use Rattle.std.specs.Option.{option_map}
use Rattle.std.proofs.lemmas.Option.{slice_get-map}
use Rattle.g4_source.specs.declared.element.Repeat.TheVariants.{Once, Optional, Star, Plus}
use Rattle.g4_source.specs.Elements.{Element, atom, block, Elements, empty, then, Alternatives, none, or}
use Rattle.g4_source.specs.Bind.{over, in_order_over, either_over}
use Rattle.g4_grammar.specs.Derives.{DerivesOne}
use Rattle.g4_grammar.specs.LeftCalls.{Nullable, an_atom, a_call, a_block, an_optional, a_star, a_plus, AllNullable, nothing, one_more, OneNullable, this, another, IsLeftOf, IsLeftOfAll, IsLeftOfOne}
use Rattle.g4_grammar.specs.Loops.{HasEmptyLoop, OneHasEmptyLoop, SomeHasEmptyLoop}
use Rattle.g4_grammar.specs.OwnCalls.{IsLeftAsRun, IsLeftOfOneAsRun, LeftCallsAsRun}
use Rattle.g4_grammar.proofs.Empty.{one_derives_nothing, one_is_nullable}

-- an item of a list as what it becomes
pub mapped_at : {X Y : Type 0} (f : X → Y) (xs : List X) (i : ℕ) (x : X) → slice_get xs i ≡ Some x → slice_get (map f xs) i ≡ Some (f x)
mapped_at f xs i x at = slice_get-map f xs i ∙ ap (option_map f) at

-- an item of what a list becomes is what one of its items becomes
pub mapped_back : {X Y : Type 0} (f : X → Y) (xs : List X) (i : ℕ) (y : Y) → slice_get (map f xs) i ≡ Some y
    → (x : X) × (slice_get xs i ≡ Some x) × (y ≡ f x)
mapped_back f [] i y e = cc
mapped_back f (x ∷ xs) zero y e = (x, refl, cc)
mapped_back f (x ∷ xs) (suc i) y e = mapped_back f xs i y e

module _ {A B : Type 0} (f : A → B) (Reads : A → List ℕ → Type 0) (ReadsOver : B → List ℕ → Type 0) (Calls : A → ℕ → Type 0)
    (CallsOver : B → ℕ → Type 0) (rules : List (Alternatives A))
    (reads : (a : A) → Reads a [] ↔ ReadsOver (f a) []) (calls : (a : A) (k : ℕ) → Calls a k ↔ CallsOver (f a) k) where
  -- the rules over the other atoms
  abbrev made : List (Alternatives B)
  made = map (either_over f) rules

  mutual
    -- what derives the empty word does so over the other atoms
    nullable_over : {x : Element A} → Nullable Reads Calls rules x → Nullable ReadsOver CallsOver made (over f x)
    nullable_over (an_atom a r) = an_atom (f a) ((reads a).0 r)
    nullable_over (a_call a k xs c is h) = a_call (f a) k (either_over f xs) ((calls a k).0 c)
        (mapped_at (either_over f) rules k xs is) (one_over h)
    nullable_over (a_block label xs h) = a_block label (either_over f xs) (one_over h)
    nullable_over (an_optional label sign xs) = an_optional label sign (either_over f xs)
    nullable_over (a_star label sign xs) = a_star label sign (either_over f xs)
    nullable_over (a_plus label sign xs h) = a_plus label sign (either_over f xs) (one_over h)

    -- the same of elements
    pub all_over : {xs : Elements A} → AllNullable Reads Calls rules xs → AllNullable ReadsOver CallsOver made (in_order_over f xs)
    all_over nothing = nothing
    all_over (one_more x xs h hs) = one_more (over f x) (in_order_over f xs) (nullable_over h) (all_over hs)

    -- the same of alternatives
    one_over : {xs : Alternatives A} → OneNullable Reads Calls rules xs → OneNullable ReadsOver CallsOver made (either_over f xs)
    one_over (this x xs h) = this (in_order_over f x) (either_over f xs) (all_over h)
    one_over (another x xs h) = another (in_order_over f x) (either_over f xs) (one_over h)

  mutual
    -- what derives the empty word over the other atoms does so itself
    nullable_back : (y : Element B) → Nullable ReadsOver CallsOver made y → (x : Element A) → y ≡ over f x → Nullable Reads Calls rules x
    nullable_back _ (an_atom b r) (atom a) e = let P : B → Type 0 = λ z. ReadsOver z [] in an_atom a ((reads a).1 (subst P (cc) r))
    nullable_back _ (an_atom b r) (block label repeat xs) e = cc
    nullable_back _ (a_call b k ys c is h) (atom a) e =
        let P : B → Type 0 = λ z. CallsOver z k in
        let called = mapped_back (either_over f) rules k ys is in
        a_call a k called.0 ((calls a k).1 (subst P (cc) c)) called.1 (one_back ys h called.0 called.2)
    nullable_back _ (a_call b k ys c is h) (block label repeat xs) e = cc
    nullable_back _ (a_block label ys h) (atom a) e = cc
    nullable_back _ (a_block label ys h) (block other repeat xs) e =
        rw (let r : repeat ≡ Once = cc in r) (a_block other xs (one_back ys h xs (cc)))
    nullable_back _ (an_optional label sign ys) (atom a) e = cc
    nullable_back _ (an_optional label sign ys) (block other repeat xs) e =
        rw (let r : repeat ≡ Optional sign = cc in r) (an_optional other sign xs)
    nullable_back _ (a_star label sign ys) (atom a) e = cc
    nullable_back _ (a_star label sign ys) (block other repeat xs) e = rw (let r : repeat ≡ Star sign = cc in r) (a_star other sign xs)
    nullable_back _ (a_plus label sign ys h) (atom a) e = cc
    nullable_back _ (a_plus label sign ys h) (block other repeat xs) e =
        rw (let r : repeat ≡ Plus sign = cc in r) (a_plus other sign xs (one_back ys h xs (cc)))

    -- the same of elements
    pub all_back : (ys : Elements B) → AllNullable ReadsOver CallsOver made ys → (xs : Elements A) → ys ≡ in_order_over f xs
        → AllNullable Reads Calls rules xs
    all_back _ nothing empty e = nothing
    all_back _ nothing (then x xs) e = cc
    all_back _ (one_more y ys h hs) empty e = cc
    all_back _ (one_more y ys h hs) (then x xs) e = one_more x xs (nullable_back y h x (cc)) (all_back ys hs xs (cc))

    -- the same of alternatives
    one_back : (ys : Alternatives B) → OneNullable ReadsOver CallsOver made ys → (xs : Alternatives A) → ys ≡ either_over f xs
        → OneNullable Reads Calls rules xs
    one_back _ (this y ys h) none e = cc
    one_back _ (this y ys h) (or x xs) e = this x xs (all_back y h x (cc))
    one_back _ (another y ys h) none e = cc
    one_back _ (another y ys h) (or x xs) e = another x xs (one_back ys h xs (cc))

  -- a body that derives the empty word, over the other atoms
  body_over : (xs : Alternatives A) → DerivesOne Reads Calls rules xs [] → DerivesOne ReadsOver CallsOver made (either_over f xs) []
  body_over xs d = one_derives_nothing ReadsOver CallsOver made (one_over (one_is_nullable Reads Calls rules d refl))

  -- and back
  body_back : (xs : Alternatives A) → DerivesOne ReadsOver CallsOver made (either_over f xs) [] → DerivesOne Reads Calls rules xs []
  body_back xs d = one_derives_nothing Reads Calls rules
      (one_back (either_over f xs) (one_is_nullable ReadsOver CallsOver made d refl) xs refl)

  mutual
    -- a loop that can be empty, over the other atoms
    loop_over : (x : Element A) → HasEmptyLoop Reads Calls rules x → HasEmptyLoop ReadsOver CallsOver made (over f x)
    loop_over (atom a) h = h
    loop_over (block label Once xs) h = some_loop_over xs h
    loop_over (block label (Optional sign) xs) h = some_loop_over xs h
    loop_over (block label (Star sign) xs) (inl e) = inl (body_over xs e)
    loop_over (block label (Star sign) xs) (inr l) = inr (some_loop_over xs l)
    loop_over (block label (Plus sign) xs) (inl e) = inl (body_over xs e)
    loop_over (block label (Plus sign) xs) (inr l) = inr (some_loop_over xs l)

    -- in elements one after another
    all_loop_over : (xs : Elements A) → OneHasEmptyLoop Reads Calls rules xs → OneHasEmptyLoop ReadsOver CallsOver made (in_order_over f xs)
    all_loop_over empty h = h
    all_loop_over (then x xs) (inl e) = inl (loop_over x e)
    all_loop_over (then x xs) (inr l) = inr (all_loop_over xs l)

    -- in alternatives
    pub some_loop_over : (xs : Alternatives A) → SomeHasEmptyLoop Reads Calls rules xs
        → SomeHasEmptyLoop ReadsOver CallsOver made (either_over f xs)
    some_loop_over none h = h
    some_loop_over (or x xs) (inl e) = inl (all_loop_over x e)
    some_loop_over (or x xs) (inr l) = inr (some_loop_over xs l)

  mutual
    -- and back
    loop_back : (x : Element A) → HasEmptyLoop ReadsOver CallsOver made (over f x) → HasEmptyLoop Reads Calls rules x
    loop_back (atom a) h = h
    loop_back (block label Once xs) h = some_loop_back xs h
    loop_back (block label (Optional sign) xs) h = some_loop_back xs h
    loop_back (block label (Star sign) xs) (inl e) = inl (body_back xs e)
    loop_back (block label (Star sign) xs) (inr l) = inr (some_loop_back xs l)
    loop_back (block label (Plus sign) xs) (inl e) = inl (body_back xs e)
    loop_back (block label (Plus sign) xs) (inr l) = inr (some_loop_back xs l)

    -- in elements one after another
    all_loop_back : (xs : Elements A) → OneHasEmptyLoop ReadsOver CallsOver made (in_order_over f xs) → OneHasEmptyLoop Reads Calls rules xs
    all_loop_back empty h = h
    all_loop_back (then x xs) (inl e) = inl (loop_back x e)
    all_loop_back (then x xs) (inr l) = inr (all_loop_back xs l)

    -- in alternatives
    pub some_loop_back : (xs : Alternatives A) → SomeHasEmptyLoop ReadsOver CallsOver made (either_over f xs)
        → SomeHasEmptyLoop Reads Calls rules xs
    some_loop_back none h = h
    some_loop_back (or x xs) (inl e) = inl (all_loop_back x e)
    some_loop_back (or x xs) (inr l) = inr (some_loop_back xs l)

  mutual
    -- a left call, over the other atoms
    left_over : (x : Element A) (j : ℕ) → IsLeftOf Reads Calls rules x j → IsLeftOf ReadsOver CallsOver made (over f x) j
    left_over (atom a) j h = (calls a j).0 h
    left_over (block label repeat xs) j h = one_left_over xs j h

    -- of elements one after another
    all_left_over : (xs : Elements A) (j : ℕ) → IsLeftOfAll Reads Calls rules xs j
        → IsLeftOfAll ReadsOver CallsOver made (in_order_over f xs) j
    all_left_over empty j h = h
    all_left_over (then x xs) j (inl h) = inl (left_over x j h)
    all_left_over (then x xs) j (inr h) = inr (nullable_over h.0, all_left_over xs j h.1)

    -- of alternatives
    one_left_over : (xs : Alternatives A) (j : ℕ) → IsLeftOfOne Reads Calls rules xs j
        → IsLeftOfOne ReadsOver CallsOver made (either_over f xs) j
    one_left_over none j h = h
    one_left_over (or x xs) j (inl h) = inl (all_left_over x j h)
    one_left_over (or x xs) j (inr h) = inr (one_left_over xs j h)

  mutual
    -- and back
    left_back : (x : Element A) (j : ℕ) → IsLeftOf ReadsOver CallsOver made (over f x) j → IsLeftOf Reads Calls rules x j
    left_back (atom a) j h = (calls a j).1 h
    left_back (block label repeat xs) j h = one_left_back xs j h

    -- of elements one after another
    all_left_back : (xs : Elements A) (j : ℕ) → IsLeftOfAll ReadsOver CallsOver made (in_order_over f xs) j
        → IsLeftOfAll Reads Calls rules xs j
    all_left_back empty j h = h
    all_left_back (then x xs) j (inl h) = inl (left_back x j h)
    all_left_back (then x xs) j (inr h) = inr (nullable_back (over f x) h.0 x refl, all_left_back xs j h.1)

    -- of alternatives
    one_left_back : (xs : Alternatives A) (j : ℕ) → IsLeftOfOne ReadsOver CallsOver made (either_over f xs) j
        → IsLeftOfOne Reads Calls rules xs j
    one_left_back none j h = h
    one_left_back (or x xs) j (inl h) = inl (all_left_back x j h)
    one_left_back (or x xs) j (inr h) = inr (one_left_back xs j h)

  -- an atom begins an operator of a rule exactly where the atom that it becomes does
  module _ (Own : A → ℕ → Type 0) (OwnOver : B → ℕ → Type 0) (own : (a : A) (k : ℕ) → Own a k ↔ OwnOver (f a) k) where
    -- a left call of an alternative of rule k as it is run, over the other atoms
    run_over : (k : ℕ) (xs : Elements A) (j : ℕ) → IsLeftAsRun Reads Calls Own rules k xs j
        → IsLeftAsRun ReadsOver CallsOver OwnOver made k (in_order_over f xs) j
    run_over k empty j h = h
    run_over k (then (atom a) xs) j (inl h) = inl ((calls a j).0 h.0, λ o. h.1 ((own a k).1 o))
    run_over k (then (atom a) xs) j (inr h) = inr (nullable_over h.0, all_left_over xs j h.1)
    run_over k (then (block label repeat ys) xs) j h = all_left_over (then (block label repeat ys) xs) j h

    -- of alternatives
    one_run_over : (k : ℕ) (xs : Alternatives A) (j : ℕ) → IsLeftOfOneAsRun Reads Calls Own rules k xs j
        → IsLeftOfOneAsRun ReadsOver CallsOver OwnOver made k (either_over f xs) j
    one_run_over k none j h = h
    one_run_over k (or x xs) j (inl h) = inl (run_over k x j h)
    one_run_over k (or x xs) j (inr h) = inr (one_run_over k xs j h)

    -- and back
    run_back : (k : ℕ) (xs : Elements A) (j : ℕ) → IsLeftAsRun ReadsOver CallsOver OwnOver made k (in_order_over f xs) j
        → IsLeftAsRun Reads Calls Own rules k xs j
    run_back k empty j h = h
    run_back k (then (atom a) xs) j (inl h) = inl ((calls a j).1 h.0, λ o. h.1 ((own a k).0 o))
    run_back k (then (atom a) xs) j (inr h) = inr (nullable_back (atom (f a)) h.0 (atom a) refl, all_left_back xs j h.1)
    run_back k (then (block label repeat ys) xs) j h = all_left_back (then (block label repeat ys) xs) j h

    -- of alternatives
    one_run_back : (k : ℕ) (xs : Alternatives A) (j : ℕ) → IsLeftOfOneAsRun ReadsOver CallsOver OwnOver made k (either_over f xs) j
        → IsLeftOfOneAsRun Reads Calls Own rules k xs j
    one_run_back k none j h = h
    one_run_back k (or x xs) j (inl h) = inl (run_back k x j h)
    one_run_back k (or x xs) j (inr h) = inr (one_run_back k xs j h)

    -- the left calls of rules as they are run are those over the other atoms
    pub left_calls_over : (k j : ℕ) → LeftCallsAsRun Reads Calls Own rules k j ↔ LeftCallsAsRun ReadsOver CallsOver OwnOver made k j
    left_calls_over k j = (to, from)
      where
        to : LeftCallsAsRun Reads Calls Own rules k j → LeftCallsAsRun ReadsOver CallsOver OwnOver made k j
        to (xs, at, left) = (either_over f xs, mapped_at (either_over f) rules k xs at, one_run_over k xs j left)

        from : LeftCallsAsRun ReadsOver CallsOver OwnOver made k j → LeftCallsAsRun Reads Calls Own rules k j
        from (ys, at, left) =
            let (xs, there, is) = mapped_back (either_over f) rules k ys at in (
              xs,
              there,
              one_run_back k xs j (subst (λ (zs : Alternatives B). IsLeftOfOneAsRun ReadsOver CallsOver OwnOver made k zs j)
                  is left),
            )
