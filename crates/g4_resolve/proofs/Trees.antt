-- What holds of trees over other atoms, and of each rule that a tree calls.
use Rattle.std.proofs.Common.{◌≡◌, ℕ, inl, inr, List, [], ◌++◌, map, refl, sym, ap, ◌∙◌}
use Rattle.std.specs.List.{All}
use Rattle.std.proofs.lemmas.List.{map-append}
use Rattle.std.proofs.lemmas.List.Elements.{All-head}
use Rattle.g4_source.specs.Elements.{Element, atom, block, Elements, empty, then, Alternatives, none, or, atoms, atoms_in_order, atoms_of_either}
use Rattle.g4_source.specs.Bind.{over, in_order_over, either_over}
use Rattle.g4_source.specs.Full.{IsFull, AreFull, EachIsFull, IsSome}
use Rattle.g4_source.proofs.Parts.{All-front, All-rest}
use Rattle.g4_grammar.specs.LeftCalls.{HasCall, OneHasCall, SomeHasCall}

module _ {A B : Type 0} (f : A → B) where
  mutual
    -- the atoms of a tree over other atoms
    atoms_over : (x : Element A) → atoms (over f x) ≡ map f (atoms x)
    atoms_over (atom a) = refl
    atoms_over (block label repeat xs) = atoms_either_over xs

    atoms_all_over : (xs : Elements A) → atoms_in_order (in_order_over f xs) ≡ map f (atoms_in_order xs)
    atoms_all_over empty = refl
    atoms_all_over (then x xs) = ap (λ (ys : List B). ys ++ atoms_in_order (in_order_over f xs)) (atoms_over x)
        ∙ (ap (λ (ys : List B). map f (atoms x) ++ ys) (atoms_all_over xs) ∙ sym (map-append f (atoms x) (atoms_in_order xs)))

    pub atoms_either_over : (xs : Alternatives A) → atoms_of_either (either_over f xs) ≡ map f (atoms_of_either xs)
    atoms_either_over none = refl
    atoms_either_over (or x xs) =
        ap (λ (ys : List B). ys ++ atoms_of_either (either_over f xs)) (atoms_all_over x)
        ∙ (ap (λ (ys : List B). map f (atoms_in_order x) ++ ys) (atoms_either_over xs)
        ∙ sym (map-append f (atoms_in_order x) (atoms_of_either xs)))

  pub some_over : (xs : Alternatives A) → IsSome xs → IsSome (either_over f xs)
  some_over none h = h
  some_over (or x xs) h = tt

  mutual
    -- blocks keep their alternatives
    full_over : (x : Element A) → IsFull x → IsFull (over f x)
    full_over (atom a) h = tt
    full_over (block label repeat xs) h = (some_over xs h.0, each_full_over xs h.1)

    all_full_over : (xs : Elements A) → AreFull xs → AreFull (in_order_over f xs)
    all_full_over empty h = tt
    all_full_over (then x xs) h = (full_over x h.0, all_full_over xs h.1)

    pub each_full_over : (xs : Alternatives A) → EachIsFull xs → EachIsFull (either_over f xs)
    each_full_over none h = tt
    each_full_over (or x xs) h = (all_full_over x h.0, each_full_over xs h.1)

module _ {A : Type 0} (Calls : A → ℕ → Type 0) (P : ℕ → Type 0) where
  -- what holds of each rule that the atom calls
  abbrev pub CallsHave : A → Type 0
  CallsHave a = (j : ℕ) → Calls a j → P j

  mutual
    -- holds of each that the element calls
    call_has : (x : Element A) → All CallsHave (atoms x) → (j : ℕ) → HasCall Calls x j → P j
    call_has (atom a) q j c = All-head CallsHave a [] q j c
    call_has (block label repeat xs) q j c = one_call_has xs q j c

    -- or the elements
    all_calls_have : (xs : Elements A) → All CallsHave (atoms_in_order xs) → (j : ℕ) → OneHasCall Calls xs j → P j
    all_calls_have empty q j c = absurd c
    all_calls_have (then x xs) q j (inl c) = call_has x (All-front CallsHave (atoms x) (atoms_in_order xs) q) j c
    all_calls_have (then x xs) q j (inr c) = all_calls_have xs (All-rest CallsHave (atoms x) (atoms_in_order xs) q) j c

    -- or the alternatives
    pub one_call_has : (xs : Alternatives A) → All CallsHave (atoms_of_either xs) → (j : ℕ) → SomeHasCall Calls xs j → P j
    one_call_has none q j c = absurd c
    one_call_has (or x xs) q j (inl c) = all_calls_have x (All-front CallsHave (atoms_in_order x) (atoms_of_either xs) q) j c
    one_call_has (or x xs) q j (inr c) = one_call_has xs (All-rest CallsHave (atoms_in_order x) (atoms_of_either xs) q) j c
