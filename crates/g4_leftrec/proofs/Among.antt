-- What holds of one of several alternatives.
use Rattle.std.proofs.Common.{ℕ, List, inl, inr, refl, sym, subst}
use Rattle.std.specs.List.{All}
use Rattle.std.proofs.lemmas.List.Elements.{All-nil, All-append}
use Rattle.g4_source.specs.Full.{AreFull, EachIsFull}
use Rattle.g4_source.specs.Elements.{Elements, Alternatives, none, or, atoms_in_order, atoms_of_either}
use Rattle.g4_source.proofs.Parts.{All-front, All-rest}
use Rattle.g4_grammar.specs.LeftCalls.{AllNullable, OneNullable, this, another, IsLeftOfAll, IsLeftOfOne, OneHasCall, SomeHasCall}
use Rattle.g4_grammar.specs.Loops.{OneHasEmptyLoop, SomeHasEmptyLoop}
use Rattle.g4_grammar.specs.OwnCalls.{IsOneOf, IsLeftAsRun, IsLeftOfOneAsRun}

module _ {A : Type 0} (Reads : A → List ℕ → Type 0) (Calls : A → ℕ → Type 0) (rules : List (Alternatives A)) where
  -- the one that derives the empty word
  pub nullable_one : (xs : Alternatives A) → OneNullable Reads Calls rules xs
      → (x : Elements A) × IsOneOf xs x × AllNullable Reads Calls rules x
  nullable_one _ (this x xs h) = (x, inl refl, h)
  nullable_one _ (another x xs h) = let found = nullable_one xs h in (found.0, inr found.1, found.2)

  -- and back
  pub one_nullable : (xs : Alternatives A) (x : Elements A) → IsOneOf xs x → AllNullable Reads Calls rules x
      → OneNullable Reads Calls rules xs
  one_nullable none x among h = absurd among
  one_nullable (or y ys) x (inl same) h = this y ys (subst (AllNullable Reads Calls rules) same h)
  one_nullable (or y ys) x (inr among) h = another y ys (one_nullable ys x among h)

  -- the one with a left call
  pub left_one : (xs : Alternatives A) (j : ℕ) → IsLeftOfOne Reads Calls rules xs j
      → (x : Elements A) × IsOneOf xs x × IsLeftOfAll Reads Calls rules x j
  left_one none j l = absurd l
  left_one (or x xs) j (inl l) = (x, inl refl, l)
  left_one (or x xs) j (inr l) = let found = left_one xs j l in (found.0, inr found.1, found.2)

  -- one with a left call as it is run
  pub one_left_as_run : (Own : A → ℕ → Type 0) (k : ℕ) (xs : Alternatives A) (x : Elements A) (j : ℕ) → IsOneOf xs x
      → IsLeftAsRun Reads Calls Own rules k x j → IsLeftOfOneAsRun Reads Calls Own rules k xs j
  one_left_as_run Own k none x j among l = absurd among
  one_left_as_run Own k (or y ys) x j (inl same) l = inl (subst (λ (z : Elements A). IsLeftAsRun Reads Calls Own rules k z j) same l)
  one_left_as_run Own k (or y ys) x j (inr among) l = inr (one_left_as_run Own k ys x j among l)

  -- the one with a loop that can be empty
  pub looped_one : (xs : Alternatives A) → SomeHasEmptyLoop Reads Calls rules xs
      → (x : Elements A) × IsOneOf xs x × OneHasEmptyLoop Reads Calls rules x
  looped_one none l = absurd l
  looped_one (or x xs) (inl l) = (x, inl refl, l)
  looped_one (or x xs) (inr l) = let found = looped_one xs l in (found.0, inr found.1, found.2)

  -- and back
  pub one_looped : (xs : Alternatives A) (x : Elements A) → IsOneOf xs x → OneHasEmptyLoop Reads Calls rules x
      → SomeHasEmptyLoop Reads Calls rules xs
  one_looped none x among l = absurd among
  one_looped (or y ys) x (inl same) l = inl (subst (OneHasEmptyLoop Reads Calls rules) same l)
  one_looped (or y ys) x (inr among) l = inr (one_looped ys x among l)

module _ {A : Type 0} (Calls : A → ℕ → Type 0) where
  -- the one with a call
  pub calling_one : (xs : Alternatives A) (j : ℕ) → SomeHasCall Calls xs j → (x : Elements A) × IsOneOf xs x × OneHasCall Calls x j
  calling_one none j l = absurd l
  calling_one (or x xs) j (inl l) = (x, inl refl, l)
  calling_one (or x xs) j (inr l) = let found = calling_one xs j l in (found.0, inr found.1, found.2)

  -- and back
  pub one_calling : (xs : Alternatives A) (x : Elements A) (j : ℕ) → IsOneOf xs x → OneHasCall Calls x j → SomeHasCall Calls xs j
  one_calling none x j among l = absurd among
  one_calling (or y ys) x j (inl same) l = inl (subst (λ (z : Elements A). OneHasCall Calls z j) same l)
  one_calling (or y ys) x j (inr among) l = inr (one_calling ys x j among l)

module _ {A : Type 0} where
  -- each is full
  pub full_one : (xs : Alternatives A) (x : Elements A) → EachIsFull xs → IsOneOf xs x → AreFull x
  full_one none x h among = absurd among
  full_one (or y ys) x h (inl same) = subst AreFull (sym same) h.0
  full_one (or y ys) x h (inr among) = full_one ys x h.1 among

  -- and back
  pub each_full : (xs : Alternatives A) → ((x : Elements A) → IsOneOf xs x → AreFull x) → EachIsFull xs
  each_full none h = tt
  each_full (or y ys) h = (h y (inl refl), each_full ys (λ x among. h x (inr among)))

  -- each has such atoms alone
  pub atoms_one : (P : A → Type 0) (xs : Alternatives A) (x : Elements A) → All P (atoms_of_either xs) → IsOneOf xs x
      → All P (atoms_in_order x)
  atoms_one P none x h among = absurd among
  atoms_one P (or y ys) x h (inl same) = subst (λ (z : Elements A). All P (atoms_in_order z)) (sym same)
      (All-front P (atoms_in_order y) (atoms_of_either ys) h)
  atoms_one P (or y ys) x h (inr among) = atoms_one P ys x (All-rest P (atoms_in_order y) (atoms_of_either ys) h) among

  -- and back
  pub each_atoms : (P : A → Type 0) (xs : Alternatives A) → ((x : Elements A) → IsOneOf xs x → All P (atoms_in_order x))
      → All P (atoms_of_either xs)
  each_atoms P none h = All-nil P
  each_atoms P (or y ys) h = All-append P (atoms_in_order y) (atoms_of_either ys) (h y (inl refl))
      (each_atoms P ys (λ x among. h x (inr among)))
