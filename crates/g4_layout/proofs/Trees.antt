-- Trees whose blocks all have an alternative and whose atoms are all good, by cases.
use Rattle.std.proofs.Common.{ℕ, inl, inr, [], All}
use Rattle.std.proofs.lemmas.List.Elements.{All-head}
use Rattle.g4_source.specs.Elements.{Element, atom, block, Elements, empty, then, Alternatives, none, or, atoms, atoms_in_order, atoms_of_either}
use Rattle.g4_source.specs.Full.{IsSome, IsFull, AreFull, EachIsFull}
use Rattle.g4_source.proofs.Parts.{All-front, All-rest}
use Rattle.g4_grammar.specs.LeftCalls.{HasCall, OneHasCall, SomeHasCall}

module _ {A : Type 0} (Good : A → Type 0) where
  abbrev mutual
    -- each block of the element has an alternative, and each atom is good
    pub IsSound : Element A → Type 0
    IsSound (atom a) = Good a
    IsSound (block label repeat xs) = IsSome xs × EachIsSound xs

    -- the same of elements
    pub AreSound : Elements A → Type 0
    AreSound empty = Unit {0}
    AreSound (then x xs) = IsSound x × AreSound xs

    -- the same of alternatives
    pub EachIsSound : Alternatives A → Type 0
    EachIsSound none = Unit {0}
    EachIsSound (or x xs) = AreSound x × EachIsSound xs

module _ {A : Type 0} (P : A → Type 0) (Calls : A → ℕ → Type 0) (Known : ℕ → Type 0) where
  -- this holds of the atom, and what it calls is known
  abbrev pub CallsKnown : A → Type 0
  CallsKnown a = P a × ((j : ℕ) → Calls a j → Known j)

  mutual
    -- an element is sound so, where its blocks have alternatives, this holds of its atoms, and its calls are of known rules
    pub sound : (x : Element A) → IsFull x → All P (atoms x) → ((j : ℕ) → HasCall Calls x j → Known j) → IsSound CallsKnown x
    sound (atom a) full every calls = (All-head P a [] every, calls)
    sound (block label repeat xs) full every calls = (full.0, each_sound xs full.1 every calls)

    -- the same of elements
    pub all_sound : (xs : Elements A) → AreFull xs → All P (atoms_in_order xs) → ((j : ℕ) → OneHasCall Calls xs j → Known j)
        → AreSound CallsKnown xs
    all_sound empty full every calls = tt
    all_sound (then x xs) full every calls = (
      sound x full.0 (All-front P (atoms x) (atoms_in_order xs) every) (λ j c. calls j (inl c)),
      all_sound xs full.1 (All-rest P (atoms x) (atoms_in_order xs) every) (λ j c. calls j (inr c)),
    )

    -- the same of alternatives
    pub each_sound : (xs : Alternatives A) → EachIsFull xs → All P (atoms_of_either xs) → ((j : ℕ) → SomeHasCall Calls xs j → Known j)
        → EachIsSound CallsKnown xs
    each_sound none full every calls = tt
    each_sound (or x xs) full every calls = (
      all_sound x full.0 (All-front P (atoms_in_order x) (atoms_of_either xs) every) (λ j c. calls j (inl c)),
      each_sound xs full.1 (All-rest P (atoms_in_order x) (atoms_of_either xs) every) (λ j c. calls j (inr c)),
    )
