-- Elements derive the empty word by cases where they derive it as a word, and left calls are calls.
use Rattle.std.proofs.Common.{◌≡◌, inl, inr, ℕ, List, [], ◌∷◌, ◌++◌, refl, sym, ◌∙◌, subst}
use Rattle.g4_source.specs.Elements.{Element, atom, block, Elements, empty, then, Alternatives, none, or}
use Rattle.g4_grammar.specs.Derives.{Derives, DerivesAll, DerivesOne}
use Rattle.g4_grammar.specs.Derives as word
use Rattle.g4_grammar.specs.LeftCalls.{Nullable, an_atom, a_call, a_block, an_optional, a_star, a_plus, AllNullable, nothing, one_more, OneNullable, this, another, IsLeftOf, IsLeftOfAll, IsLeftOfOne, HasCall, OneHasCall, SomeHasCall}

-- the parts of the empty word are empty
pub front_empty : (u v : List ℕ) → [] ≡ u ++ v → u ≡ []
front_empty [] v e = refl
front_empty (a ∷ u) v e = absurd (let n : ⊥ = cc in n)

pub back_empty : (u v : List ℕ) → [] ≡ u ++ v → v ≡ []
back_empty [] v e = sym e
back_empty (a ∷ u) v e = absurd (let n : ⊥ = cc in n)

module _ {A : Type 0} (Reads : A → List ℕ → Type 0) (Calls : A → ℕ → Type 0) (rules : List (Alternatives A)) where
  mutual
    -- an element
    pub derives_nothing : {x : Element A} → Nullable Reads Calls rules x → Derives Reads Calls rules x []
    derives_nothing (an_atom a h) = word.an_atom a [] h
    derives_nothing (a_call a rule xs calls is h) = word.a_call a rule xs [] calls is (one_derives_nothing h)
    derives_nothing (a_block label xs h) = word.a_block label xs [] (one_derives_nothing h)
    derives_nothing (an_optional label sign xs) = word.left_out label sign xs
    derives_nothing (a_star label sign xs) = word.no_turn label sign xs
    derives_nothing (a_plus label sign xs h) = word.turns label sign xs [] [] [] (one_derives_nothing h) (word.no_turn label sign xs) refl

    -- elements one after another
    pub all_derive_nothing : {xs : Elements A} → AllNullable Reads Calls rules xs → DerivesAll Reads Calls rules xs []
    all_derive_nothing nothing = word.nothing
    all_derive_nothing (one_more x xs h hs) = word.one_more x xs [] [] [] (derives_nothing h) (all_derive_nothing hs) refl

    -- alternatives
    pub one_derives_nothing : {xs : Alternatives A} → OneNullable Reads Calls rules xs → DerivesOne Reads Calls rules xs []
    one_derives_nothing (this x xs h) = word.this x xs [] (all_derive_nothing h)
    one_derives_nothing (another x xs h) = word.another x xs [] (one_derives_nothing h)

  mutual
    -- and back: an element
    pub is_nullable : {x : Element A} {w : List ℕ} → Derives Reads Calls rules x w → w ≡ [] → Nullable Reads Calls rules x
    is_nullable (word.an_atom a w h) e = an_atom a (subst (Reads a) e h)
    is_nullable (word.a_call a rule xs w calls is h) e = a_call a rule xs calls is (one_is_nullable h e)
    is_nullable (word.a_block label xs w h) e = a_block label xs (one_is_nullable h e)
    is_nullable (word.left_out label sign xs) e = an_optional label sign xs
    is_nullable (word.taken label sign xs w h) e = an_optional label sign xs
    is_nullable (word.no_turn label sign xs) e = a_star label sign xs
    is_nullable (word.a_turn label sign xs u v w h hs is) e = a_star label sign xs
    is_nullable (word.turns label sign xs u v w h hs is) e = a_plus label sign xs (one_is_nullable h (front_empty u v (sym e ∙ is)))

    -- elements one after another
    pub all_are_nullable : {xs : Elements A} {w : List ℕ} → DerivesAll Reads Calls rules xs w → w ≡ [] → AllNullable Reads Calls rules xs
    all_are_nullable word.nothing e = nothing
    all_are_nullable (word.one_more x xs u v w h hs is) e =
        one_more x xs (is_nullable h (front_empty u v (sym e ∙ is))) (all_are_nullable hs (back_empty u v (sym e ∙ is)))

    -- alternatives
    pub one_is_nullable : {xs : Alternatives A} {w : List ℕ} → DerivesOne Reads Calls rules xs w → w ≡ [] → OneNullable Reads Calls rules xs
    one_is_nullable (word.this x xs w h) e = this x xs (all_are_nullable h e)
    one_is_nullable (word.another x xs w h) e = another x xs (one_is_nullable h e)

  mutual
    -- a left call of an element is a call
    pub left_is_call : (x : Element A) (j : ℕ) → IsLeftOf Reads Calls rules x j → HasCall Calls x j
    left_is_call (atom a) j h = h
    left_is_call (block label repeat xs) j h = one_left_is_call xs j h

    -- of elements one after another
    pub all_left_is_call : (xs : Elements A) (j : ℕ) → IsLeftOfAll Reads Calls rules xs j → OneHasCall Calls xs j
    all_left_is_call empty j h = h
    all_left_is_call (then x xs) j (inl h) = inl (left_is_call x j h)
    all_left_is_call (then x xs) j (inr h) = inr (all_left_is_call xs j h.1)

    -- of alternatives
    pub one_left_is_call : (xs : Alternatives A) (j : ℕ) → IsLeftOfOne Reads Calls rules xs j → SomeHasCall Calls xs j
    one_left_is_call none j h = h
    one_left_is_call (or x xs) j (inl h) = inl (all_left_is_call x j h)
    one_left_is_call (or x xs) j (inr h) = inr (one_left_is_call xs j h)
