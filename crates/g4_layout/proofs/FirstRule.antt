-- What the first of the rules is does not matter to the others, where no rule calls it.
use Rattle.std.proofs.Common.{◌≡◌, ℕ, zero, suc, ◌≤◌, inl, inr, List, ◌∷◌, Some, refl, subst, arith, slice_get}
use Rattle.g4_source.specs.declared.element.Repeat.TheVariants.{Once, Optional, Star, Plus}
use Rattle.g4_source.specs.Elements.{Element, atom, block, Elements, empty, then, Alternatives, none, or}
use Rattle.g4_grammar.specs.LeftCalls.{Nullable, an_atom, a_call, a_block, an_optional, a_star, a_plus, AllNullable, nothing, one_more, OneNullable, this, another, IsLeftOf, IsLeftOfAll, IsLeftOfOne, HasCall, OneHasCall, SomeHasCall, LeftCalls, ReachesLeft, one_call, more_calls, NoLeftCycle}
use Rattle.g4_grammar.specs.Loops.{IsEmptyBody, HasEmptyLoop, OneHasEmptyLoop, SomeHasEmptyLoop, NoEmptyLoop}
use Rattle.g4_grammar.proofs.Empty.{one_derives_nothing, one_is_nullable, one_left_is_call}

module _ {A : Type 0} (Reads : A → List ℕ → Type 0) (Calls : A → ℕ → Type 0) (first other : Alternatives A) (rest : List (Alternatives A))
    (later : (k j : ℕ) (xs : Alternatives A) → slice_get rest k ≡ Some xs → SomeHasCall Calls xs j → 1 ≤ j) where
  -- what is called is not the first rule
  abbrev NotFirst : (ℕ → Type 0) → Type 0
  NotFirst Called = (j : ℕ) → Called j → 1 ≤ j

  -- another rule than the first is the same in both lists
  elsewhere : (rule : ℕ) (xs : Alternatives A) → 1 ≤ rule → slice_get (first ∷ rest) rule ≡ Some xs
      → (slice_get (other ∷ rest) rule ≡ Some xs) × NotFirst (SomeHasCall Calls xs)
  elsewhere zero xs from is = absurd (omega arith)
  elsewhere (suc k) xs from is = (is, λ j c. later k j xs is c)

  mutual
    -- an element that derives the empty word
    nullable_over : {x : Element A} → Nullable Reads Calls (first ∷ rest) x → NotFirst (HasCall Calls x)
        → Nullable Reads Calls (other ∷ rest) x
    nullable_over (an_atom a h) calls = an_atom a h
    nullable_over (a_call a rule xs called is h) calls = let e = elsewhere rule xs (calls rule called) is in
        a_call a rule xs called e.0 (one_nullable_over h e.1)
    nullable_over (a_block label xs h) calls = a_block label xs (one_nullable_over h calls)
    nullable_over (an_optional label sign xs) calls = an_optional label sign xs
    nullable_over (a_star label sign xs) calls = a_star label sign xs
    nullable_over (a_plus label sign xs h) calls = a_plus label sign xs (one_nullable_over h calls)

    -- elements
    all_nullable_over : {xs : Elements A} → AllNullable Reads Calls (first ∷ rest) xs → NotFirst (OneHasCall Calls xs)
        → AllNullable Reads Calls (other ∷ rest) xs
    all_nullable_over nothing calls = nothing
    all_nullable_over (one_more x xs h hs) calls =
        one_more x xs (nullable_over h (λ j c. calls j (inl c))) (all_nullable_over hs (λ j c. calls j (inr c)))

    -- alternatives
    one_nullable_over : {xs : Alternatives A} → OneNullable Reads Calls (first ∷ rest) xs → NotFirst (SomeHasCall Calls xs)
        → OneNullable Reads Calls (other ∷ rest) xs
    one_nullable_over (this x xs h) calls = this x xs (all_nullable_over h (λ j c. calls j (inl c)))
    one_nullable_over (another x xs h) calls = another x xs (one_nullable_over h (λ j c. calls j (inr c)))

  mutual
    -- a left call of an element
    left_over : (x : Element A) (j : ℕ) → NotFirst (HasCall Calls x) → IsLeftOf Reads Calls (first ∷ rest) x j
        → IsLeftOf Reads Calls (other ∷ rest) x j
    left_over (atom a) j calls h = h
    left_over (block label repeat xs) j calls h = one_left_over xs j calls h

    -- of elements
    all_left_over : (xs : Elements A) (j : ℕ) → NotFirst (OneHasCall Calls xs) → IsLeftOfAll Reads Calls (first ∷ rest) xs j
        → IsLeftOfAll Reads Calls (other ∷ rest) xs j
    all_left_over empty j calls h = h
    all_left_over (then x xs) j calls (inl h) = inl (left_over x j (λ q c. calls q (inl c)) h)
    all_left_over (then x xs) j calls (inr h) =
        inr (nullable_over h.0 (λ q c. calls q (inl c)), all_left_over xs j (λ q c. calls q (inr c)) h.1)

    -- of alternatives
    one_left_over : (xs : Alternatives A) (j : ℕ) → NotFirst (SomeHasCall Calls xs) → IsLeftOfOne Reads Calls (first ∷ rest) xs j
        → IsLeftOfOne Reads Calls (other ∷ rest) xs j
    one_left_over none j calls h = h
    one_left_over (or x xs) j calls (inl h) = inl (all_left_over x j (λ q c. calls q (inl c)) h)
    one_left_over (or x xs) j calls (inr h) = inr (one_left_over xs j (λ q c. calls q (inr c)) h)

  -- the body of a loop
  body_over : (xs : Alternatives A) → NotFirst (SomeHasCall Calls xs) → IsEmptyBody Reads Calls (first ∷ rest) xs
      → IsEmptyBody Reads Calls (other ∷ rest) xs
  body_over xs calls h = one_derives_nothing Reads Calls (other ∷ rest)
      (one_nullable_over (one_is_nullable Reads Calls (first ∷ rest) h refl) calls)

  mutual
    -- an element with a loop whose body derives the empty word
    loop_over : (x : Element A) → NotFirst (HasCall Calls x) → HasEmptyLoop Reads Calls (first ∷ rest) x
        → HasEmptyLoop Reads Calls (other ∷ rest) x
    loop_over (atom a) calls h = h
    loop_over (block label Once xs) calls h = some_loop_over xs calls h
    loop_over (block label (Optional sign) xs) calls h = some_loop_over xs calls h
    loop_over (block label (Star sign) xs) calls (inl h) = inl (body_over xs calls h)
    loop_over (block label (Star sign) xs) calls (inr h) = inr (some_loop_over xs calls h)
    loop_over (block label (Plus sign) xs) calls (inl h) = inl (body_over xs calls h)
    loop_over (block label (Plus sign) xs) calls (inr h) = inr (some_loop_over xs calls h)

    -- elements
    one_loop_over : (xs : Elements A) → NotFirst (OneHasCall Calls xs) → OneHasEmptyLoop Reads Calls (first ∷ rest) xs
        → OneHasEmptyLoop Reads Calls (other ∷ rest) xs
    one_loop_over empty calls h = h
    one_loop_over (then x xs) calls (inl h) = inl (loop_over x (λ q c. calls q (inl c)) h)
    one_loop_over (then x xs) calls (inr h) = inr (one_loop_over xs (λ q c. calls q (inr c)) h)

    -- alternatives
    some_loop_over : (xs : Alternatives A) → NotFirst (SomeHasCall Calls xs) → SomeHasEmptyLoop Reads Calls (first ∷ rest) xs
        → SomeHasEmptyLoop Reads Calls (other ∷ rest) xs
    some_loop_over none calls h = h
    some_loop_over (or x xs) calls (inl h) = inl (one_loop_over x (λ q c. calls q (inl c)) h)
    some_loop_over (or x xs) calls (inr h) = inr (some_loop_over xs (λ q c. calls q (inr c)) h)

  -- no loop has a body that derives the empty word, if none of the first rule has
  pub no_loop_over : NoEmptyLoop Reads Calls (other ∷ rest) → (SomeHasEmptyLoop Reads Calls (first ∷ rest) first → ⊥)
      → NoEmptyLoop Reads Calls (first ∷ rest)
  no_loop_over loops own zero xs is h = let same : xs ≡ first = cc in own (subst (SomeHasEmptyLoop Reads Calls (first ∷ rest)) same h)
  no_loop_over loops own (suc k) xs is h = loops (suc k) xs is (some_loop_over xs (λ j c. later k j xs is c) h)

  module _ (own : (j : ℕ) → SomeHasCall Calls first j → 1 ≤ j) where
    -- no left call is of the first rule
    called_from : (k j : ℕ) → LeftCalls Reads Calls (first ∷ rest) k j → 1 ≤ j
    called_from zero j (xs, is, h) = let same : xs ≡ first = cc in
        own j (subst (λ (ys : Alternatives A). SomeHasCall Calls ys j) same (one_left_is_call Reads Calls (first ∷ rest) xs j h))
    called_from (suc k) j (xs, is, h) = later k j xs is (one_left_is_call Reads Calls (first ∷ rest) xs j h)

    -- nor is the last of several
    reached_from : {k j : ℕ} → ReachesLeft Reads Calls (first ∷ rest) k j → 1 ≤ j
    reached_from {k} (one_call j l) = called_from k j l
    reached_from (more_calls i j r l) = called_from i j l

    -- left calls of another rule than the first are the same
    calls_over : (k j : ℕ) → 1 ≤ k → LeftCalls Reads Calls (first ∷ rest) k j → LeftCalls Reads Calls (other ∷ rest) k j
    calls_over k j from (xs, is, h) = let e = elsewhere k xs from is in (xs, e.0, one_left_over xs j e.1 h)

    -- and so are several
    reaches_over : {k j : ℕ} → 1 ≤ k → ReachesLeft Reads Calls (first ∷ rest) k j → ReachesLeft Reads Calls (other ∷ rest) k j
    reaches_over {k} from (one_call j l) = one_call j (calls_over k j from l)
    reaches_over from (more_calls i j r l) = more_calls i j (reaches_over from r) (calls_over i j (reached_from r) l)

    -- no rule reaches itself by left calls
    pub no_cycle_over : NoLeftCycle Reads Calls (other ∷ rest) → NoLeftCycle Reads Calls (first ∷ rest)
    no_cycle_over cycles k r = cycles k (reaches_over (reached_from r) r)
