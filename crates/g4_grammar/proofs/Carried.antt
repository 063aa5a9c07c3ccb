-- Rules over other atoms can be run where the rules themselves can, where an atom reads the empty word and calls a rule only if the
-- atom of which it is made does.
use Rattle.std.proofs.Common.{◌≡◌, ◌⊎◌, ◌↔◌, ℕ, List, [], inl, inr, Some, refl, ap, ◌∙◌, subst, slice_get}
use Rattle.g4_source.specs.declared.element.Repeat.TheVariants.{Once, Optional, Star, Plus}
use Rattle.g4_source.specs.Elements.{Element, atom, block, Elements, empty, then, Alternatives, none, or}
use Rattle.g4_source.specs.Bind.{over, in_order_over, either_over}
use Rattle.g4_grammar.specs.Derives.{DerivesOne}
use Rattle.g4_grammar.specs.LeftCalls.{Nullable, an_atom, a_call, a_block, an_optional, a_star, a_plus, AllNullable, nothing, one_more, OneNullable, this, another, IsLeftOf, IsLeftOfAll, IsLeftOfOne, ReachesBy, one_call, more_calls}
use Rattle.g4_grammar.specs.Loops.{HasEmptyLoop, OneHasEmptyLoop, SomeHasEmptyLoop}
use Rattle.g4_grammar.specs.OwnCalls.{IsOneOf, IsOperator, LacksPrimary, HasEmptyOperator, IsLeftAsRun, IsLeftOfOneAsRun, LeftCallsAsRun, CanRun}
use Rattle.g4_grammar.proofs.Empty.{one_derives_nothing, one_is_nullable}

module _ {A B C : Type 0} (f : B → C) (g : A → B) where
  mutual
    -- a tree over other atoms, and over others again
    pub over_twice : (x : Element A) → over f (over g x) ≡ over (λ a. f (g a)) x
    over_twice (atom a) = refl
    over_twice (block label repeat xs) = ap (block label repeat) (either_over_twice xs)

    -- the same of elements
    pub in_order_over_twice : (xs : Elements A) → in_order_over f (in_order_over g xs) ≡ in_order_over (λ a. f (g a)) xs
    in_order_over_twice empty = refl
    in_order_over_twice (then x xs) = ap (λ (y : Element C). then y (in_order_over f (in_order_over g xs))) (over_twice x)
        ∙ ap (then (over (λ a. f (g a)) x)) (in_order_over_twice xs)

    -- the same of alternatives
    pub either_over_twice : (xs : Alternatives A) → either_over f (either_over g xs) ≡ either_over (λ a. f (g a)) xs
    either_over_twice none = refl
    either_over_twice (or x xs) = ap (λ (y : Elements C). or y (either_over f (either_over g xs))) (in_order_over_twice x)
        ∙ ap (or (in_order_over (λ a. f (g a)) x)) (either_over_twice xs)

module _ {A B : Type 0} (f : A → B) (Reads : A → List ℕ → Type 0) (ReadsOver : B → List ℕ → Type 0) (Calls : A → ℕ → Type 0)
    (CallsOver : B → ℕ → Type 0) (rules : List (Alternatives A)) (made : List (Alternatives B))
    (reads : (a : A) → ReadsOver (f a) [] → Reads a [])
    (calls : (a : A) (k : ℕ) (ys : Alternatives B) → CallsOver (f a) k → slice_get made k ≡ Some ys
    → (j : ℕ) × Calls a j × ((xs : Alternatives A) × (slice_get rules j ≡ Some xs) × (ys ≡ either_over f xs))) where
  mutual
    -- what derives the empty word over other atoms, does so itself
    nullable_back : (y : Element B) → Nullable ReadsOver CallsOver made y → (x : Element A) → y ≡ over f x → Nullable Reads Calls rules x
    nullable_back _ (an_atom b r) (atom a) e = let P : B → Type 0 = λ z. ReadsOver z [] in an_atom a (reads a (subst P (cc) r))
    nullable_back _ (an_atom b r) (block label repeat xs) e = cc
    nullable_back _ (a_call b k ys c is h) (atom a) e =
        let P : B → Type 0 = λ z. CallsOver z k in
        let called = calls a k ys (subst P (cc) c) is in
        a_call a called.0 called.2.0 called.1 called.2.1 (one_back ys h called.2.0 called.2.2)
    nullable_back _ (a_call b k ys c is h) (block label repeat xs) e = cc
    nullable_back _ (a_block label ys h) (atom a) e = cc
    nullable_back _ (a_block label ys h) (block other repeat xs) e =
        rw (let r : repeat ≡ Once = cc in r) (a_block other xs (one_back ys h xs (cc)))
    nullable_back _ (an_optional label sign ys) (atom a) e = cc
    nullable_back _ (an_optional label sign ys) (block other repeat xs) e =
        rw (let r : repeat ≡ Optional sign = cc in r) (an_optional other sign xs)
    nullable_back _ (a_star label sign ys) (atom a) e = cc
    nullable_back _ (a_star label sign ys) (block other repeat xs) e = rw (let r : repeat ≡ Star sign = cc in r) (a_star other sign xs)
    nullable_back _ (a_plus label sign ys h) (atom a) e = cc
    nullable_back _ (a_plus label sign ys h) (block other repeat xs) e =
        rw (let r : repeat ≡ Plus sign = cc in r) (a_plus other sign xs (one_back ys h xs (cc)))

    -- the same of elements
    all_back : (ys : Elements B) → AllNullable ReadsOver CallsOver made ys → (xs : Elements A) → ys ≡ in_order_over f xs
        → AllNullable Reads Calls rules xs
    all_back _ nothing empty e = nothing
    all_back _ nothing (then x xs) e = cc
    all_back _ (one_more y ys h hs) empty e = cc
    all_back _ (one_more y ys h hs) (then x xs) e = one_more x xs (nullable_back y h x (cc)) (all_back ys hs xs (cc))

    -- the same of alternatives
    one_back : (ys : Alternatives B) → OneNullable ReadsOver CallsOver made ys → (xs : Alternatives A) → ys ≡ either_over f xs
        → OneNullable Reads Calls rules xs
    one_back _ (this y ys h) none e = cc
    one_back _ (this y ys h) (or x xs) e = this x xs (all_back y h x (cc))
    one_back _ (another y ys h) none e = cc
    one_back _ (another y ys h) (or x xs) e = another x xs (one_back ys h xs (cc))

  -- a body that derives the empty word does so itself
  body_back : (xs : Alternatives A) → DerivesOne ReadsOver CallsOver made (either_over f xs) [] → DerivesOne Reads Calls rules xs []
  body_back xs d = one_derives_nothing Reads Calls rules
      (one_back (either_over f xs) (one_is_nullable ReadsOver CallsOver made d refl) xs refl)

  mutual
    -- a loop that can be empty
    loop_back : (x : Element A) → HasEmptyLoop ReadsOver CallsOver made (over f x) → HasEmptyLoop Reads Calls rules x
    loop_back (atom a) h = h
    loop_back (block label Once xs) h = some_loop_back xs h
    loop_back (block label (Optional sign) xs) h = some_loop_back xs h
    loop_back (block label (Star sign) xs) (inl e) = inl (body_back xs e)
    loop_back (block label (Star sign) xs) (inr l) = inr (some_loop_back xs l)
    loop_back (block label (Plus sign) xs) (inl e) = inl (body_back xs e)
    loop_back (block label (Plus sign) xs) (inr l) = inr (some_loop_back xs l)

    -- in elements one after another
    all_loop_back : (xs : Elements A) → OneHasEmptyLoop ReadsOver CallsOver made (in_order_over f xs) → OneHasEmptyLoop Reads Calls rules xs
    all_loop_back empty h = h
    all_loop_back (then x xs) (inl e) = inl (loop_back x e)
    all_loop_back (then x xs) (inr l) = inr (all_loop_back xs l)

    -- in alternatives
    pub some_loop_back : (xs : Alternatives A) → SomeHasEmptyLoop ReadsOver CallsOver made (either_over f xs)
        → SomeHasEmptyLoop Reads Calls rules xs
    some_loop_back none h = h
    some_loop_back (or x xs) (inl e) = inl (all_loop_back x e)
    some_loop_back (or x xs) (inr l) = inr (some_loop_back xs l)

-- the rules over other atoms have numbers of their own: `number` gives that of the rule of which one is made
module _ {A B : Type 0} (f : A → B) (Reads : A → List ℕ → Type 0) (ReadsOver : B → List ℕ → Type 0) (Calls : A → ℕ → Type 0)
    (CallsOver : B → ℕ → Type 0) (rules : List (Alternatives A)) (made : List (Alternatives B)) (number : ℕ → ℕ)
    (reads : (a : A) → ReadsOver (f a) [] → Reads a [])
    (calls : (a : A) (k : ℕ) (ys : Alternatives B) → CallsOver (f a) k → slice_get made k ≡ Some ys
    → Calls a (number k) × ((xs : Alternatives A) × (slice_get rules (number k) ≡ Some xs) × (ys ≡ either_over f xs)))
    (bodies : (k : ℕ) (ys : Alternatives B) → slice_get made k ≡ Some ys
    → (ys ≡ none) ⊎ ((xs : Alternatives A) × (slice_get rules (number k) ≡ Some xs) × (ys ≡ either_over f xs))) where
  -- what derives the empty word over other atoms, does so itself
  nullable_itself : (x : Element A) → Nullable ReadsOver CallsOver made (over f x) → Nullable Reads Calls rules x
  nullable_itself x h = nullable_back f Reads ReadsOver Calls CallsOver rules made reads
      (λ a k ys c is. let called = calls a k ys c is in (number k, called.0, called.1)) (over f x) h x refl

  all_itself : (xs : Elements A) → AllNullable ReadsOver CallsOver made (in_order_over f xs) → AllNullable Reads Calls rules xs
  all_itself xs h = all_back f Reads ReadsOver Calls CallsOver rules made reads
      (λ a k ys c is. let called = calls a k ys c is in (number k, called.0, called.1)) (in_order_over f xs) h xs refl

  module _ (j : ℕ) (zs : Alternatives B) (at : slice_get made j ≡ Some zs) where
    mutual
      -- a left call
      left_back : (x : Element A) → IsLeftOf ReadsOver CallsOver made (over f x) j → IsLeftOf Reads Calls rules x (number j)
      left_back (atom a) l = (calls a j zs l at).0
      left_back (block label repeat xs) l = left_one_back xs l

      -- in elements one after another
      left_all_back : (xs : Elements A) → IsLeftOfAll ReadsOver CallsOver made (in_order_over f xs) j
          → IsLeftOfAll Reads Calls rules xs (number j)
      left_all_back empty l = l
      left_all_back (then x xs) (inl l) = inl (left_back x l)
      left_all_back (then x xs) (inr l) = inr (nullable_itself x l.0, left_all_back xs l.1)

      -- in alternatives
      left_one_back : (xs : Alternatives A) → IsLeftOfOne ReadsOver CallsOver made (either_over f xs) j
          → IsLeftOfOne Reads Calls rules xs (number j)
      left_one_back none l = l
      left_one_back (or x xs) (inl l) = inl (left_all_back x l)
      left_one_back (or x xs) (inr l) = inr (left_one_back xs l)

  module _ (Own : A → ℕ → Type 0) (OwnOver : B → ℕ → Type 0) (k : ℕ) (own : (a : A) → OwnOver (f a) k ↔ Own a (number k)) where
    -- an alternative of rules over other atoms that calls a rule before anything is read, as it is run
    as_run_back : (j : ℕ) (zs : Alternatives B) → slice_get made j ≡ Some zs → (x : Elements A)
        → IsLeftAsRun ReadsOver CallsOver OwnOver made k (in_order_over f x) j → IsLeftAsRun Reads Calls Own rules (number k) x (number j)
    as_run_back j zs at empty l = l
    as_run_back j zs at (then (atom a) xs) (inl l) = inl ((calls a j zs l.0 at).0, λ o. l.1 ((own a).1 o))
    as_run_back j zs at (then (atom a) xs) (inr l) = inr (nullable_itself (atom a) l.0, left_all_back j zs at xs l.1)
    as_run_back j zs at (then (block label repeat ys) xs) l = left_all_back j zs at (then (block label repeat ys) xs) l

    -- one of several
    one_as_run_back : (j : ℕ) (zs : Alternatives B) → slice_get made j ≡ Some zs → (xs : Alternatives A)
        → IsLeftOfOneAsRun ReadsOver CallsOver OwnOver made k (either_over f xs) j →
        IsLeftOfOneAsRun Reads Calls Own rules (number k) xs (number j)
    one_as_run_back j zs at none l = l
    one_as_run_back j zs at (or x xs) (inl l) = inl (as_run_back j zs at x l)
    one_as_run_back j zs at (or x xs) (inr l) = inr (one_as_run_back j zs at xs l)

    -- an alternative over other atoms is made of one
    one_of_back : (xs : Alternatives A) (y : Elements B) → IsOneOf (either_over f xs) y
        → (x : Elements A) × IsOneOf xs x × (y ≡ in_order_over f x)
    one_of_back none y h = absurd h
    one_of_back (or x xs) y (inl same) = (x, inl refl, same)
    one_of_back (or x xs) y (inr h) = let found = one_of_back xs y h in (found.0, inr found.1, found.2)

    one_of_on : (xs : Alternatives A) (x : Elements A) → IsOneOf xs x → IsOneOf (either_over f xs) (in_order_over f x)
    one_of_on none x h = absurd h
    one_of_on (or y ys) x (inl same) = inl (ap (in_order_over f) same)
    one_of_on (or y ys) x (inr h) = inr (one_of_on ys x h)

    -- and an operator of an operator
    operator_back : (x : Elements A) (rest : Elements B) → IsOperator OwnOver k (in_order_over f x) rest
        → (others : Elements A) × IsOperator Own (number k) x others × (rest ≡ in_order_over f others)
    operator_back empty rest o = absurd o
    operator_back (then (atom a) xs) rest o = (xs, ((own a).0 o.0, refl), o.1)
    operator_back (then (block label repeat ys) xs) rest o = absurd o

    lacks_back : (xs : Alternatives A) → LacksPrimary OwnOver k (either_over f xs) → LacksPrimary Own (number k) xs
    lacks_back xs l = record {
      some =
          let (y, rest, among, operator) = l.some in
          let found = one_of_back xs y among in
          let o = operator_back found.0 rest (subst (λ (z : Elements B). IsOperator OwnOver k z rest) found.2 operator) in
          (found.0, o.0, found.1, o.1);
      each = λ x among.
          let o = l.each (in_order_over f x) (one_of_on xs x among) in
          let back = operator_back x o.0 o.1 in
          (back.0, back.1);
    }

    empty_operator_back : (xs : Alternatives A) → HasEmptyOperator ReadsOver CallsOver OwnOver made k (either_over f xs)
        → HasEmptyOperator Reads Calls Own rules (number k) xs
    empty_operator_back xs (y, rest, among, operator, silent) =
        let found = one_of_back xs y among in
        let o = operator_back found.0 rest (subst (λ (z : Elements B). IsOperator OwnOver k z rest) found.2 operator) in
        (found.0, o.0, found.1, o.1, all_itself o.0 (subst (AllNullable ReadsOver CallsOver made) o.2 silent))

  module _ (Own : A → ℕ → Type 0) (OwnOver : B → ℕ → Type 0)
      (own : (a : A) (k : ℕ) (ys : Alternatives B) → slice_get made k ≡ Some ys → OwnOver (f a) k ↔ Own a (number k)) where
    -- a rule that calls one that is made, calls it itself
    left_call_back : (k j : ℕ) (zs : Alternatives B) → slice_get made j ≡ Some zs
        → LeftCallsAsRun ReadsOver CallsOver OwnOver made k j → LeftCallsAsRun Reads Calls Own rules (number k) (number j)
    left_call_back k j zs at (ys, is, l) = elim (bodies k ys is) [
      | inl e ↦ absurd (subst (λ (xs : Alternatives B). IsLeftOfOneAsRun ReadsOver CallsOver OwnOver made k xs j) e l)
      | inr body ↦ (
        body.0,
        body.1,
        one_as_run_back Own OwnOver k (λ a. own a k ys is) j zs at body.0
            (subst (λ (xs : Alternatives B). IsLeftOfOneAsRun ReadsOver CallsOver OwnOver made k xs j) body.2 l),
      )
    ]

    -- a chain of left calls
    reaches_back : (k j : ℕ) (zs : Alternatives B) → slice_get made j ≡ Some zs
        → ReachesBy (LeftCallsAsRun ReadsOver CallsOver OwnOver made) k j
        → ReachesBy (LeftCallsAsRun Reads Calls Own rules) (number k) (number j)
    reaches_back k _ zs at (one_call j c) = one_call (number j) (left_call_back k j zs at c)
    reaches_back k _ zs at (more_calls i j h c) = more_calls (number i) (number j) (reaches_back k i c.0 c.1 h) (left_call_back i j zs at c)

    -- where it begins is a rule
    first_body : (k j : ℕ) → ReachesBy (LeftCallsAsRun ReadsOver CallsOver OwnOver made) k j
        → (ys : Alternatives B) × (slice_get made k ≡ Some ys)
    first_body k _ (one_call j c) = (c.0, c.1)
    first_body k _ (more_calls i j h c) = first_body k i h

    -- rules over other atoms can be run where the rules themselves can
    pub can_run_over : CanRun Reads Calls Own rules → CanRun ReadsOver CallsOver OwnOver made
    can_run_over can = record {
      loops = λ k ys is looped. elim (bodies k ys is) [
        | inl e ↦ subst (SomeHasEmptyLoop ReadsOver CallsOver made) e looped
        | inr body ↦ can.loops (number k) body.0 body.1
            (some_loop_back f Reads ReadsOver Calls CallsOver rules made reads
            (λ a i zs c at. let called = calls a i zs c at in (number i, called.0, called.1)) body.0
            (subst (SomeHasEmptyLoop ReadsOver CallsOver made) body.2 looped))
      ];
      primaries = λ k ys is lacks. elim (bodies k ys is) [
        | inl e ↦ (subst (LacksPrimary OwnOver k) e lacks).some.2
        | inr body ↦ can.primaries (number k) body.0 body.1
            (lacks_back Own OwnOver k (λ a. own a k ys is) body.0 (subst (LacksPrimary OwnOver k) body.2 lacks))
      ];
      operators = λ k ys is has. elim (bodies k ys is) [
        | inl e ↦ (subst (HasEmptyOperator ReadsOver CallsOver OwnOver made k) e has).2
        | inr body ↦ can.operators (number k) body.0 body.1
            (empty_operator_back Own OwnOver k (λ a. own a k ys is) body.0
            (subst (HasEmptyOperator ReadsOver CallsOver OwnOver made k) body.2 has))
      ];
      cycles = λ k r. let body = first_body k k r in can.cycles (number k) (reaches_back k k body.0 body.1 r);
    }
