-- What rules whose atoms become elements have of rules over the atoms themselves: the empty word, loops and calls.
use Rattle.std.proofs.Common.{◌≡◌, ℕ, List, [], inl, inr, Some, refl, ap, ◌∙◌, subst, slice_get}
use Rattle.g4_source.specs.declared.name.Label.{Label}
use Rattle.g4_source.specs.declared.element.Repeat.{Repeat}
use Rattle.g4_source.specs.declared.element.Repeat.TheVariants.{Once, Optional, Star, Plus}
use Rattle.g4_source.specs.Elements.{Element, atom, block, Elements, empty, then, Alternatives, none, or}
use Rattle.g4_source.specs.Bind.{bind, in_order_bind, either_bind, over, in_order_over, either_over}
use Rattle.g4_grammar.specs.Derives.{DerivesOne}
use Rattle.g4_grammar.specs.LeftCalls.{Nullable, an_atom, a_call, a_block, an_optional, a_star, a_plus, AllNullable, nothing, one_more, OneNullable, this, another, IsLeftOf, IsLeftOfAll, IsLeftOfOne, HasCall, OneHasCall, SomeHasCall, LeftCalls, ReachesLeft, one_call, more_calls, CallsAreInRange, NoLeftCycle}
use Rattle.g4_grammar.specs.Loops.{HasEmptyLoop, OneHasEmptyLoop, SomeHasEmptyLoop, NoEmptyLoop}
use Rattle.g4_grammar.proofs.Empty.{one_derives_nothing, one_is_nullable}
use Rattle.std.proofs.Common.{Option, ◌<◌, length}

module _ {A B C : Type 0} (f : B → C) (g : A → Element B) where
  mutual
    -- elements in the place of atoms, over other atoms
    pub over_bound : (x : Element A) → over f (bind g x) ≡ bind (λ a. over f (g a)) x
    over_bound (atom a) = refl
    over_bound (block label repeat xs) = ap (block label repeat) (either_over_bound xs)

    pub in_order_over_bound : (xs : Elements A) → in_order_over f (in_order_bind g xs) ≡ in_order_bind (λ a. over f (g a)) xs
    in_order_over_bound empty = refl
    in_order_over_bound (then x xs) = ap (λ (y : Element C). then y (in_order_over f (in_order_bind g xs))) (over_bound x)
        ∙ ap (then (bind (λ (a : A). over f (g a)) x)) (in_order_over_bound xs)

    pub either_over_bound : (xs : Alternatives A) → either_over f (either_bind g xs) ≡ either_bind (λ a. over f (g a)) xs
    either_over_bound none = refl
    either_over_bound (or x xs) = ap (λ (y : Elements C). or y (either_over f (either_bind g xs))) (in_order_over_bound x)
        ∙ ap (or (in_order_bind (λ (a : A). over f (g a)) x)) (either_over_bound xs)

module _ {A B : Type 0} (g : A → Element B) (Reads : A → List ℕ → Type 0) (ReadsOver : B → List ℕ → Type 0) (Calls : A → ℕ → Type 0)
    (CallsOver : B → ℕ → Type 0) (rules : List (Alternatives A)) (made : List (Alternatives B))
    (reads : (a : A) (b : B) → atom b ≡ g a → ReadsOver b [] → Reads a [])
    (calls : (a : A) (b : B) (k : ℕ) → atom b ≡ g a → CallsOver b k → Calls a k)
    (blocks : (a : A) (label : Option Label) (repeat : Repeat) (ys : Alternatives B) → block label repeat ys ≡ g a
    → Nullable ReadsOver CallsOver made (block label repeat ys) → Reads a [])
    (same : (k : ℕ) (ys : Alternatives B) → slice_get made k ≡ Some ys
    → (xs : Alternatives A) × (slice_get rules k ≡ Some xs) × (ys ≡ either_bind g xs)) where
  mutual
    -- what derives the empty word then, does so itself
    nullable_back : (y : Element B) → Nullable ReadsOver CallsOver made y → (x : Element A) → y ≡ bind g x → Nullable Reads Calls rules x
    nullable_back _ (an_atom b r) (atom a) e = an_atom a (reads a b e r)
    nullable_back _ (an_atom b r) (block label repeat xs) e = cc
    nullable_back _ (a_call b k ys c is h) (atom a) e = let found = same k ys is in
        a_call a k found.0 (calls a b k e c) found.1 (one_back ys h found.0 found.2)
    nullable_back _ (a_call b k ys c is h) (block label repeat xs) e = cc
    nullable_back _ (a_block label ys h) (atom a) e = an_atom a (blocks a label Once ys e (a_block label ys h))
    nullable_back _ (a_block label ys h) (block other repeat xs) e =
        rw (let r : repeat ≡ Once = cc in r) (a_block other xs (one_back ys h xs (cc)))
    nullable_back _ (an_optional label sign ys) (atom a) e = an_atom a (blocks a label (Optional sign) ys e (an_optional label sign ys))
    nullable_back _ (an_optional label sign ys) (block other repeat xs) e =
        rw (let r : repeat ≡ Optional sign = cc in r) (an_optional other sign xs)
    nullable_back _ (a_star label sign ys) (atom a) e = an_atom a (blocks a label (Star sign) ys e (a_star label sign ys))
    nullable_back _ (a_star label sign ys) (block other repeat xs) e = rw (let r : repeat ≡ Star sign = cc in r) (a_star other sign xs)
    nullable_back _ (a_plus label sign ys h) (atom a) e = an_atom a (blocks a label (Plus sign) ys e (a_plus label sign ys h))
    nullable_back _ (a_plus label sign ys h) (block other repeat xs) e =
        rw (let r : repeat ≡ Plus sign = cc in r) (a_plus other sign xs (one_back ys h xs (cc)))

    all_back : (ys : Elements B) → AllNullable ReadsOver CallsOver made ys → (xs : Elements A) → ys ≡ in_order_bind g xs
        → AllNullable Reads Calls rules xs
    all_back _ nothing empty e = nothing
    all_back _ nothing (then x xs) e = cc
    all_back _ (one_more y ys h hs) empty e = cc
    all_back _ (one_more y ys h hs) (then x xs) e = one_more x xs (nullable_back y h x (cc)) (all_back ys hs xs (cc))

    one_back : (ys : Alternatives B) → OneNullable ReadsOver CallsOver made ys → (xs : Alternatives A) → ys ≡ either_bind g xs
        → OneNullable Reads Calls rules xs
    one_back _ (this y ys h) none e = cc
    one_back _ (this y ys h) (or x xs) e = this x xs (all_back y h x (cc))
    one_back _ (another y ys h) none e = cc
    one_back _ (another y ys h) (or x xs) e = another x xs (one_back ys h xs (cc))

  -- a body that derives the empty word does so itself
  body_back : (xs : Alternatives A) → DerivesOne ReadsOver CallsOver made (either_bind g xs) [] → DerivesOne Reads Calls rules xs []
  body_back xs d = one_derives_nothing Reads Calls rules
      (one_back (either_bind g xs) (one_is_nullable ReadsOver CallsOver made d refl) xs refl)

  module _ (no_loop : (a : A) → HasEmptyLoop ReadsOver CallsOver made (g a) → ⊥) where
    mutual
      -- a loop that can be empty
      loop_back : (x : Element A) → HasEmptyLoop ReadsOver CallsOver made (bind g x) → HasEmptyLoop Reads Calls rules x
      loop_back (atom a) h = no_loop a h
      loop_back (block label Once xs) h = some_loop_back xs h
      loop_back (block label (Optional sign) xs) h = some_loop_back xs h
      loop_back (block label (Star sign) xs) (inl e) = inl (body_back xs e)
      loop_back (block label (Star sign) xs) (inr l) = inr (some_loop_back xs l)
      loop_back (block label (Plus sign) xs) (inl e) = inl (body_back xs e)
      loop_back (block label (Plus sign) xs) (inr l) = inr (some_loop_back xs l)

      all_loop_back : (xs : Elements A) → OneHasEmptyLoop ReadsOver CallsOver made (in_order_bind g xs)
          → OneHasEmptyLoop Reads Calls rules xs
      all_loop_back empty h = h
      all_loop_back (then x xs) (inl e) = inl (loop_back x e)
      all_loop_back (then x xs) (inr l) = inr (all_loop_back xs l)

      some_loop_back : (xs : Alternatives A) → SomeHasEmptyLoop ReadsOver CallsOver made (either_bind g xs)
          → SomeHasEmptyLoop Reads Calls rules xs
      some_loop_back none h = h
      some_loop_back (or x xs) (inl e) = inl (all_loop_back x e)
      some_loop_back (or x xs) (inr l) = inr (some_loop_back xs l)

    -- no loop can be empty
    pub no_loop_over : NoEmptyLoop Reads Calls rules → NoEmptyLoop ReadsOver CallsOver made
    no_loop_over loops k ys is h =
        let found = same k ys is in loops k found.0 found.1
        (some_loop_back found.0 (subst (SomeHasEmptyLoop ReadsOver CallsOver made) found.2 h))

  module _ (lefts : (a : A) (j : ℕ) → IsLeftOf ReadsOver CallsOver made (g a) j → Calls a j) where
    module _ (j : ℕ) where
      mutual
        -- a left call
        left_back : (x : Element A) → IsLeftOf ReadsOver CallsOver made (bind g x) j → IsLeftOf Reads Calls rules x j
        left_back (atom a) l = lefts a j l
        left_back (block label repeat xs) l = left_one_back xs l

        left_all_back : (xs : Elements A) → IsLeftOfAll ReadsOver CallsOver made (in_order_bind g xs) j → IsLeftOfAll Reads Calls rules xs j
        left_all_back empty l = l
        left_all_back (then x xs) (inl l) = inl (left_back x l)
        left_all_back (then x xs) (inr l) = inr (nullable_back (bind g x) l.0 x refl, left_all_back xs l.1)

        left_one_back : (xs : Alternatives A) → IsLeftOfOne ReadsOver CallsOver made (either_bind g xs) j
            → IsLeftOfOne Reads Calls rules xs j
        left_one_back none l = l
        left_one_back (or x xs) (inl l) = inl (left_all_back x l)
        left_one_back (or x xs) (inr l) = inr (left_one_back xs l)

    left_call_back : (k j : ℕ) → LeftCalls ReadsOver CallsOver made k j → LeftCalls Reads Calls rules k j
    left_call_back k j (ys, is, l) = let found = same k ys is in
        (found.0, found.1, left_one_back j found.0 (subst (λ (zs : Alternatives B). IsLeftOfOne ReadsOver CallsOver made zs j) found.2 l))

    reaches_back : (k j : ℕ) → ReachesLeft ReadsOver CallsOver made k j → ReachesLeft Reads Calls rules k j
    reaches_back k _ (one_call j c) = one_call j (left_call_back k j c)
    reaches_back k _ (more_calls i j h c) = more_calls i j (reaches_back k i h) (left_call_back i j c)

    -- no rule reaches itself
    pub no_cycle_over : NoLeftCycle Reads Calls rules → NoLeftCycle ReadsOver CallsOver made
    no_cycle_over cycles k r = cycles k (reaches_back k k r)

  module _ (has : (a : A) (j : ℕ) → HasCall CallsOver (g a) j → Calls a j) where
    module _ (j : ℕ) where
      mutual
        -- a call
        call_back : (x : Element A) → HasCall CallsOver (bind g x) j → HasCall Calls x j
        call_back (atom a) h = has a j h
        call_back (block label repeat xs) h = some_call_back xs h

        all_call_back : (xs : Elements A) → OneHasCall CallsOver (in_order_bind g xs) j → OneHasCall Calls xs j
        all_call_back empty h = h
        all_call_back (then x xs) (inl h) = inl (call_back x h)
        all_call_back (then x xs) (inr h) = inr (all_call_back xs h)

        some_call_back : (xs : Alternatives A) → SomeHasCall CallsOver (either_bind g xs) j → SomeHasCall Calls xs j
        some_call_back none h = h
        some_call_back (or x xs) (inl h) = inl (all_call_back x h)
        some_call_back (or x xs) (inr h) = inr (some_call_back xs h)

    -- each call is of a rule of the list
    pub calls_within : length rules ≡ length made → CallsAreInRange Calls rules → CallsAreInRange CallsOver made
    calls_within many within k j ys is h =
        let found = same k ys is in subst (λ (n : ℕ). j < n) many
        (within k j found.0 found.1 (some_call_back j found.0 (subst (λ (zs : Alternatives B). SomeHasCall CallsOver zs j) found.2 h)))
