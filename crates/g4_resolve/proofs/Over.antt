-- Rules over other atoms derive what the rules themselves do, where each atom reads what the one of which it is made does, and calls
-- what is made of the rule that this one calls.
use Rattle.std.proofs.Common.{◌≡◌, ◌↔◌, ℕ, List, Some, refl, subst, slice_get}
use Rattle.g4_source.specs.declared.element.Repeat.TheVariants.{Once, Optional, Star, Plus}
use Rattle.g4_source.specs.Elements.{Element, atom, block, Elements, empty, then, Alternatives, none, or}
use Rattle.g4_source.specs.Bind.{over, in_order_over, either_over}
use Rattle.g4_grammar.specs.Derives.{Derives, an_atom, a_call, a_block, left_out, taken, no_turn, a_turn, turns, DerivesAll, nothing, one_more, DerivesOne, this, another}

module _ {A B W : Type 0} (f : A → B) (Reads : A → List W → Type 0) (ReadsOver : B → List W → Type 0) (Calls : A → ℕ → Type 0)
    (CallsOver : B → ℕ → Type 0) (rules : List (Alternatives A)) (made : List (Alternatives B))
    (reads : (a : A) (w : List W) → ReadsOver (f a) w ↔ Reads a w)
    (calls_on : (a : A) (k : ℕ) (xs : Alternatives A) → Calls a k → slice_get rules k ≡ Some xs
    → (j : ℕ) × CallsOver (f a) j × (slice_get made j ≡ Some (either_over f xs)))
    (calls_back : (a : A) (j : ℕ) (ys : Alternatives B) → CallsOver (f a) j → slice_get made j ≡ Some ys
    → (k : ℕ) × Calls a k × ((xs : Alternatives A) × (slice_get rules k ≡ Some xs) × (ys ≡ either_over f xs))) where
  mutual
    -- what an element derives, it does over other atoms
    element_on : {x : Element A} {w : List W} → Derives Reads Calls rules x w → Derives ReadsOver CallsOver made (over f x) w
    element_on (an_atom a w r) = an_atom (f a) w ((reads a w).1 r)
    element_on (a_call a k xs w c is d) = let called = calls_on a k xs c is in
        a_call (f a) called.0 (either_over f xs) w called.1 called.2 (one_on d)
    element_on (a_block label xs w d) = a_block label (either_over f xs) w (one_on d)
    element_on (left_out label sign xs) = left_out label sign (either_over f xs)
    element_on (taken label sign xs w d) = taken label sign (either_over f xs) w (one_on d)
    element_on (no_turn label sign xs) = no_turn label sign (either_over f xs)
    element_on (a_turn label sign xs u v w d more is) = a_turn label sign (either_over f xs) u v w (one_on d) (element_on more) is
    element_on (turns label sign xs u v w d more is) = turns label sign (either_over f xs) u v w (one_on d) (element_on more) is

    -- elements one after another
    all_on : {xs : Elements A} {w : List W} → DerivesAll Reads Calls rules xs w
        → DerivesAll ReadsOver CallsOver made (in_order_over f xs) w
    all_on nothing = nothing
    all_on (one_more x xs u v w d ds is) = one_more (over f x) (in_order_over f xs) u v w (element_on d) (all_on ds) is

    -- one of some alternatives
    pub one_on : {xs : Alternatives A} {w : List W} → DerivesOne Reads Calls rules xs w
        → DerivesOne ReadsOver CallsOver made (either_over f xs) w
    one_on (this x xs w d) = this (in_order_over f x) (either_over f xs) w (all_on d)
    one_on (another x xs w d) = another (in_order_over f x) (either_over f xs) w (one_on d)

  mutual
    -- and back: what an element over other atoms derives, the one of which it is made does
    element_back : (y : Element B) (w : List W) → Derives ReadsOver CallsOver made y w → (x : Element A) → y ≡ over f x
        → Derives Reads Calls rules x w
    element_back _ _ (an_atom b w r) (atom a) e = let P : B → Type 0 = λ z. ReadsOver z w in
        an_atom a w ((reads a w).0 (subst P (cc) r))
    element_back _ _ (an_atom b w r) (block label repeat xs) e = cc
    element_back _ _ (a_call b j ys w c is d) (atom a) e =
        let P : B → Type 0 = λ z. CallsOver z j in
        let called = calls_back a j ys (subst P (cc) c) is in
        a_call a called.0 called.2.0 w called.1 called.2.1 (one_back ys w d called.2.0 called.2.2)
    element_back _ _ (a_call b j ys w c is d) (block label repeat xs) e = cc
    element_back _ _ (a_block label ys w d) (atom a) e = cc
    element_back _ _ (a_block label ys w d) (block other repeat xs) e =
        rw (let r : repeat ≡ Once = cc in r) (a_block other xs w (one_back ys w d xs (cc)))
    element_back _ _ (left_out label sign ys) (atom a) e = cc
    element_back _ _ (left_out label sign ys) (block other repeat xs) e =
        rw (let r : repeat ≡ Optional sign = cc in r) (left_out other sign xs)
    element_back _ _ (taken label sign ys w d) (atom a) e = cc
    element_back _ _ (taken label sign ys w d) (block other repeat xs) e =
        rw (let r : repeat ≡ Optional sign = cc in r) (taken other sign xs w (one_back ys w d xs (cc)))
    element_back _ _ (no_turn label sign ys) (atom a) e = cc
    element_back _ _ (no_turn label sign ys) (block other repeat xs) e =
        rw (let r : repeat ≡ Star sign = cc in r) (no_turn other sign xs)
    element_back _ _ (a_turn label sign ys u v w d more is) (atom a) e = cc
    element_back _ _ (a_turn label sign ys u v w d more is) (block other repeat xs) e =
        let same : block label (Star sign) ys ≡ over f (block other (Star sign) xs) = cc in
        rw (let r : repeat ≡ Star sign = cc in r)
        (a_turn other sign xs u v w (one_back ys u d xs (cc)) (element_back _ v more (block other (Star sign) xs) same) is)
    element_back _ _ (turns label sign ys u v w d more is) (atom a) e = cc
    element_back _ _ (turns label sign ys u v w d more is) (block other repeat xs) e =
        let same : block label (Star sign) ys ≡ over f (block other (Star sign) xs) = cc in
        rw (let r : repeat ≡ Plus sign = cc in r)
        (turns other sign xs u v w (one_back ys u d xs (cc)) (element_back _ v more (block other (Star sign) xs) same) is)

    -- elements one after another
    all_back : (ys : Elements B) (w : List W) → DerivesAll ReadsOver CallsOver made ys w → (xs : Elements A) → ys ≡ in_order_over f xs
        → DerivesAll Reads Calls rules xs w
    all_back _ _ nothing empty e = nothing
    all_back _ _ nothing (then x xs) e = cc
    all_back _ _ (one_more y ys u v w d ds is) empty e = cc
    all_back _ _ (one_more y ys u v w d ds is) (then x xs) e =
        one_more x xs u v w (element_back y u d x (cc)) (all_back ys v ds xs (cc)) is

    -- one of some alternatives
    pub one_back : (ys : Alternatives B) (w : List W) → DerivesOne ReadsOver CallsOver made ys w → (xs : Alternatives A)
        → ys ≡ either_over f xs → DerivesOne Reads Calls rules xs w
    one_back _ _ (this y ys w d) none e = cc
    one_back _ _ (this y ys w d) (or x xs) e = this x xs w (all_back y w d x (cc))
    one_back _ _ (another y ys w d) none e = cc
    one_back _ _ (another y ys w d) (or x xs) e = another x xs w (one_back ys w d xs (cc))
