-- Rules over other atoms, with numbers of their own: each is made of a rule, or is closed and never called. Where the rules that they are
-- made of have
-- no loop that can be empty and none that reaches itself by left calls, neither have they.
use Rattle.std.proofs.Common.{◌≡◌, ◌⊎◌, inl, inr, ℕ, List, [], Some, refl, subst, slice_get}
use Rattle.g4_source.specs.declared.element.Repeat.TheVariants.{Once, Optional, Star, Plus}
use Rattle.g4_source.specs.Elements.{Element, atom, block, Elements, empty, then, Alternatives, none, or}
use Rattle.g4_source.specs.Bind.{over, in_order_over, either_over}
use Rattle.g4_grammar.specs.Derives.{DerivesOne}
use Rattle.g4_grammar.specs.LeftCalls.{Nullable, an_atom, a_call, a_block, an_optional, a_star, a_plus, AllNullable, nothing, one_more, OneNullable, this, another, IsLeftOf, IsLeftOfAll, IsLeftOfOne, LeftCalls, ReachesBy, one_call, more_calls, NoCycle, NoLeftCycle, SomeHasCall}
use Rattle.g4_grammar.specs.Loops.{HasEmptyLoop, OneHasEmptyLoop, SomeHasEmptyLoop, NoEmptyLoop}
use Rattle.g4_grammar.specs.OwnCalls.{IsLeftAsRun, IsLeftOfOneAsRun, LeftCallsAsRun}
use Rattle.g4_grammar.proofs.Empty.{one_derives_nothing, one_is_nullable, one_left_is_call}

-- The alternatives have no call and no loop that can be empty.
pub record IsClosed {B : Type 0} (Reads : B → List ℕ → Type 0) (Calls : B → ℕ → Type 0) (made : List (Alternatives B))
    (ys : Alternatives B) : Type 0 where
  pub callless : (j : ℕ) → SomeHasCall Calls ys j → ⊥
  pub loopless : SomeHasEmptyLoop Reads Calls made ys → ⊥

-- the alternatives over other atoms are made of those of rule k
abbrev pub IsMadeOf : {A B : Type 0} → (A → B) → List (Alternatives A) → ℕ → Alternatives B → Type 0
IsMadeOf {A} f rules k ys = (xs : Alternatives A) × (slice_get rules k ≡ Some xs) × (ys ≡ either_over f xs)

-- `number` gives the number of the rule of which one is made
module _ {A B : Type 0} (f : A → B) (Reads : A → List ℕ → Type 0) (ReadsOver : B → List ℕ → Type 0) (Calls : A → ℕ → Type 0)
    (CallsOver : B → ℕ → Type 0) (rules : List (Alternatives A)) (made : List (Alternatives B)) (number : ℕ → ℕ)
    (reads : (a : A) → ReadsOver (f a) [] → Reads a [])
    (calls : (a : A) (k : ℕ) (ys : Alternatives B) → CallsOver (f a) k → slice_get made k ≡ Some ys
    → Calls a (number k) × IsMadeOf f rules (number k) ys)
    (bodies : (k : ℕ) (ys : Alternatives B) → slice_get made k ≡ Some ys
    → IsClosed ReadsOver CallsOver made ys ⊎ IsMadeOf f rules (number k) ys) where
  mutual
    -- what derives the empty word over other atoms, does so itself
    nullable_back : (y : Element B) → Nullable ReadsOver CallsOver made y → (x : Element A) → y ≡ over f x → Nullable Reads Calls rules x
    nullable_back _ (an_atom b r) (atom a) e = let P : B → Type 0 = λ z. ReadsOver z [] in an_atom a (reads a (subst P (cc) r))
    nullable_back _ (an_atom b r) (block label repeat xs) e = cc
    nullable_back _ (a_call b k ys c is h) (atom a) e =
        let P : B → Type 0 = λ z. CallsOver z k in
        let called = calls a k ys (subst P (cc) c) is in
        a_call a (number k) called.1.0 called.0 called.1.1 (one_back ys h called.1.0 called.1.2)
    nullable_back _ (a_call b k ys c is h) (block label repeat xs) e = cc
    nullable_back _ (a_block label ys h) (atom a) e = cc
    nullable_back _ (a_block label ys h) (block other repeat xs) e =
        rw (let r : repeat ≡ Once = cc in r) (a_block other xs (one_back ys h xs (cc)))
    nullable_back _ (an_optional label sign ys) (atom a) e = cc
    nullable_back _ (an_optional label sign ys) (block other repeat xs) e =
        rw (let r : repeat ≡ Optional sign = cc in r) (an_optional other sign xs)
    nullable_back _ (a_star label sign ys) (atom a) e = cc
    nullable_back _ (a_star label sign ys) (block other repeat xs) e = rw (let r : repeat ≡ Star sign = cc in r) (a_star other sign xs)
    nullable_back _ (a_plus label sign ys h) (atom a) e = cc
    nullable_back _ (a_plus label sign ys h) (block other repeat xs) e =
        rw (let r : repeat ≡ Plus sign = cc in r) (a_plus other sign xs (one_back ys h xs (cc)))

    -- the same of elements
    all_back : (ys : Elements B) → AllNullable ReadsOver CallsOver made ys → (xs : Elements A) → ys ≡ in_order_over f xs
        → AllNullable Reads Calls rules xs
    all_back _ nothing empty e = nothing
    all_back _ nothing (then x xs) e = cc
    all_back _ (one_more y ys h hs) empty e = cc
    all_back _ (one_more y ys h hs) (then x xs) e = one_more x xs (nullable_back y h x (cc)) (all_back ys hs xs (cc))

    -- the same of alternatives
    one_back : (ys : Alternatives B) → OneNullable ReadsOver CallsOver made ys → (xs : Alternatives A) → ys ≡ either_over f xs
        → OneNullable Reads Calls rules xs
    one_back _ (this y ys h) none e = cc
    one_back _ (this y ys h) (or x xs) e = this x xs (all_back y h x (cc))
    one_back _ (another y ys h) none e = cc
    one_back _ (another y ys h) (or x xs) e = another x xs (one_back ys h xs (cc))

  -- a body that derives the empty word does so itself
  body_back : (xs : Alternatives A) → DerivesOne ReadsOver CallsOver made (either_over f xs) [] → DerivesOne Reads Calls rules xs []
  body_back xs d = one_derives_nothing Reads Calls rules
      (one_back (either_over f xs) (one_is_nullable ReadsOver CallsOver made d refl) xs refl)

  mutual
    -- a loop that can be empty
    loop_back : (x : Element A) → HasEmptyLoop ReadsOver CallsOver made (over f x) → HasEmptyLoop Reads Calls rules x
    loop_back (atom a) h = h
    loop_back (block label Once xs) h = some_loop_back xs h
    loop_back (block label (Optional sign) xs) h = some_loop_back xs h
    loop_back (block label (Star sign) xs) (inl e) = inl (body_back xs e)
    loop_back (block label (Star sign) xs) (inr l) = inr (some_loop_back xs l)
    loop_back (block label (Plus sign) xs) (inl e) = inl (body_back xs e)
    loop_back (block label (Plus sign) xs) (inr l) = inr (some_loop_back xs l)

    -- in elements one after another
    all_loop_back : (xs : Elements A) → OneHasEmptyLoop ReadsOver CallsOver made (in_order_over f xs) → OneHasEmptyLoop Reads Calls rules xs
    all_loop_back empty h = h
    all_loop_back (then x xs) (inl e) = inl (loop_back x e)
    all_loop_back (then x xs) (inr l) = inr (all_loop_back xs l)

    -- in alternatives
    some_loop_back : (xs : Alternatives A) → SomeHasEmptyLoop ReadsOver CallsOver made (either_over f xs)
        → SomeHasEmptyLoop Reads Calls rules xs
    some_loop_back none h = h
    some_loop_back (or x xs) (inl e) = inl (all_loop_back x e)
    some_loop_back (or x xs) (inr l) = inr (some_loop_back xs l)

  -- no loop can be empty
  pub no_empty_loop : NoEmptyLoop Reads Calls rules → NoEmptyLoop ReadsOver CallsOver made
  no_empty_loop can k ys is looped = elim (bodies k ys is) [
    | inl closed ↦ closed.loopless looped
    | inr body ↦ can (number k) body.0 body.1 (some_loop_back body.0 (subst (SomeHasEmptyLoop ReadsOver CallsOver made) body.2 looped))
  ]

  -- no atom that calls begins an operator of a rule
  module _ (Own : A → ℕ → Type 0) (unowned : (a : A) (j k : ℕ) → CallsOver (f a) j → Own a k → ⊥) where
    -- calls of a rule
    module _ (j : ℕ) (zs : Alternatives B) (at : slice_get made j ≡ Some zs) where
      -- an atom
      atom_back : (a : A) → CallsOver (f a) j → Calls a (number j)
      atom_back a c = (calls a j zs c at).0

      mutual
        -- a left call
        left_back : (x : Element A) → IsLeftOf ReadsOver CallsOver made (over f x) j → IsLeftOf Reads Calls rules x (number j)
        left_back (atom a) l = atom_back a l
        left_back (block label repeat xs) l = left_one_back xs l

        -- in elements one after another
        left_all_back : (xs : Elements A) → IsLeftOfAll ReadsOver CallsOver made (in_order_over f xs) j
            → IsLeftOfAll Reads Calls rules xs (number j)
        left_all_back empty l = l
        left_all_back (then x xs) (inl l) = inl (left_back x l)
        left_all_back (then x xs) (inr l) = inr (nullable_back (over f x) l.0 x refl, left_all_back xs l.1)

        -- in alternatives
        left_one_back : (xs : Alternatives A) → IsLeftOfOne ReadsOver CallsOver made (either_over f xs) j
            → IsLeftOfOne Reads Calls rules xs (number j)
        left_one_back none l = l
        left_one_back (or x xs) (inl l) = inl (left_all_back x l)
        left_one_back (or x xs) (inr l) = inr (left_one_back xs l)

      -- an alternative of rule k, as the rule is run
      as_run_back : (k : ℕ) (x : Elements A) → IsLeftOfAll ReadsOver CallsOver made (in_order_over f x) j
          → IsLeftAsRun Reads Calls Own rules k x (number j)
      as_run_back k empty l = l
      as_run_back k (then (atom a) xs) (inl l) = inl (atom_back a l, λ o. unowned a j k l o)
      as_run_back k (then (atom a) xs) (inr l) = inr (nullable_back (over f (atom a)) l.0 (atom a) refl, left_all_back xs l.1)
      as_run_back k (then (block label repeat ys) xs) l = left_all_back (then (block label repeat ys) xs) l

      -- one of several
      one_as_run_back : (k : ℕ) (xs : Alternatives A) → IsLeftOfOne ReadsOver CallsOver made (either_over f xs) j
          → IsLeftOfOneAsRun Reads Calls Own rules k xs (number j)
      one_as_run_back k none l = l
      one_as_run_back k (or x xs) (inl l) = inl (as_run_back k x l)
      one_as_run_back k (or x xs) (inr l) = inr (one_as_run_back k xs l)

      -- a left call of a rule
      left_call_back : (k : ℕ) → LeftCalls ReadsOver CallsOver made k j → LeftCallsAsRun Reads Calls Own rules (number k) (number j)
      left_call_back k (ys, is, l) = elim (bodies k ys is) [
        | inl closed ↦ absurd (closed.callless j (one_left_is_call ReadsOver CallsOver made ys j l))
        | inr body ↦ (
          body.0,
          body.1,
          one_as_run_back (number k) body.0
              (subst (λ (xs : Alternatives B). IsLeftOfOne ReadsOver CallsOver made xs j) body.2 l),
        )
      ]

    -- a chain of left calls
    reaches_back : (k j : ℕ) (zs : Alternatives B) → slice_get made j ≡ Some zs → ReachesBy (LeftCalls ReadsOver CallsOver made) k j
        → ReachesBy (LeftCallsAsRun Reads Calls Own rules) (number k) (number j)
    reaches_back k _ zs at (one_call j c) = one_call (number j) (left_call_back j zs at k c)
    reaches_back k _ zs at (more_calls i j h c) = more_calls (number i) (number j) (reaches_back k i c.0 c.1 h) (left_call_back j zs at i c)

    -- its first call
    first_call : (k j : ℕ) → ReachesBy (LeftCalls ReadsOver CallsOver made) k j → (i : ℕ) × LeftCalls ReadsOver CallsOver made k i
    first_call k _ (one_call j c) = (j, c)
    first_call k _ (more_calls i j h c) = first_call k i h

    -- no rule reaches itself by left calls
    pub no_left_cycle : NoCycle (LeftCallsAsRun Reads Calls Own rules) → NoLeftCycle ReadsOver CallsOver made
    no_left_cycle can k r =
        let (i, c) = first_call k k r in
        can (number k) (reaches_back k k c.0 c.1 r)
