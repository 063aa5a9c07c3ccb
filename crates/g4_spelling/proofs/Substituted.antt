-- Elements in the place of atoms, over steps that read letters, each of which is a word: where they derive letters, the elements over
-- the atoms derive these words joined, and the other way round.
use Rattle.std.proofs.Common.{◌≡◌, ℕ, List, [], ◌∷◌, ◌++◌, All, Some, refl, sym, ◌∙◌, ap, subst, append-nil, slice_get}
use Rattle.std.proofs.lemmas.List.Elements.{All-head}
use Rattle.g4_source.proofs.Parts.{All-front, All-rest}
use Rattle.g4_source.specs.declared.element.Repeat.TheVariants.{Once, Optional, Star, Plus}
use Rattle.g4_source.specs.Bind.{bind, in_order_bind, either_bind, over, in_order_over, either_over}
use Rattle.g4_source.specs.Elements.{Element, atom, block, Elements, empty, then, Alternatives, none, or, atoms, atoms_in_order, atoms_of_either}
use Rattle.g4_grammar.specs.Derives.{NoCalls, Derives, an_atom, a_call, a_block, left_out, taken, no_turn, a_turn, turns, DerivesAll, nothing, one_more, DerivesOne, this, another}
use Rattle.g4_derivation.proofs.Joined.{joined, joined-append}

module _ {A B D W : Type 0} (f : B → D) (g : A → Element B) (Good : A → Type 0) (Reads : A → List W → Type 0) (Calls : A → ℕ → Type 0)
    (rules : List (Alternatives A)) (Letters : D → List (List W) → Type 0) where
  -- over letters
  abbrev Spells : Element D → List (List W) → Type 0
  Spells = Derives Letters NoCalls []

  abbrev SpellsAll : Elements D → List (List W) → Type 0
  SpellsAll = DerivesAll Letters NoCalls []

  abbrev SpellsOne : Alternatives D → List (List W) → Type 0
  SpellsOne = DerivesOne Letters NoCalls []

  -- what an element derives, when its word has another form
  moved : (x : Element A) (u v : List W) → u ≡ v → Derives Reads Calls rules x u → Derives Reads Calls rules x v
  moved x u v e d = subst (Derives Reads Calls rules x) e d

  module _ (back : (a : A) (us : List (List W)) → Good a → Spells (over f (g a)) us → Derives Reads Calls rules (atom a) (joined us)) where
    mutual
      -- an element derives the joined words
      pub element_back : (y : Element D) (us : List (List W)) → Spells y us → (x : Element A) → All Good (atoms x)
          → y ≡ over f (bind g x) → Derives Reads Calls rules x (joined us)
      element_back y us d (atom a) good e = back a us (All-head Good a [] good) (subst (λ (z : Element D). Spells z us) e d)
      element_back _ us (an_atom b _ r) (block label repeat xs) good e = absurd (let n : ⊥ = cc in n)
      element_back _ us (a_call b k ys _ c is h) (block label repeat xs) good e = absurd c
      element_back _ us (a_block label ys _ d) (block other repeat xs) good e =
          rw (let r : repeat ≡ Once = cc in r) (a_block other xs (joined us) (one_back ys us d xs good (cc)))
      element_back _ _ (left_out label sign ys) (block other repeat xs) good e =
          rw (let r : repeat ≡ Optional sign = cc in r) (left_out other sign xs)
      element_back _ us (taken label sign ys _ d) (block other repeat xs) good e =
          rw (let r : repeat ≡ Optional sign = cc in r) (taken other sign xs (joined us) (one_back ys us d xs good (cc)))
      element_back _ _ (no_turn label sign ys) (block other repeat xs) good e =
          rw (let r : repeat ≡ Star sign = cc in r) (no_turn other sign xs)
      element_back _ ws (a_turn label sign ys us vs _ d more parts) (block other repeat xs) good e =
          let r : repeat ≡ Star sign = cc in
          let same : block label (Star sign) ys ≡ over f (bind g (block other (Star sign) xs)) = cc in
          rw r (a_turn other sign xs (joined us) (joined vs) (joined ws) (one_back ys us d xs good (cc))
          (element_back (block label (Star sign) ys) vs more (block other (Star sign) xs) good same)
          (ap joined parts ∙ joined-append us vs))
      element_back _ ws (turns label sign ys us vs _ d more parts) (block other repeat xs) good e =
          let r : repeat ≡ Plus sign = cc in
          let same : block label (Star sign) ys ≡ over f (bind g (block other (Star sign) xs)) = cc in
          rw r (turns other sign xs (joined us) (joined vs) (joined ws) (one_back ys us d xs good (cc))
          (element_back (block label (Star sign) ys) vs more (block other (Star sign) xs) good same)
          (ap joined parts ∙ joined-append us vs))

      -- elements one after another
      pub all_back : (ys : Elements D) (us : List (List W)) → SpellsAll ys us → (xs : Elements A) → All Good (atoms_in_order xs)
          → ys ≡ in_order_over f (in_order_bind g xs) → DerivesAll Reads Calls rules xs (joined us)
      all_back _ _ nothing empty good e = nothing
      all_back _ _ nothing (then x xs) good e = absurd (let n : ⊥ = cc in n)
      all_back _ _ (one_more y ys us vs ws d ds parts) empty good e = absurd (let n : ⊥ = cc in n)
      all_back _ ws (one_more y ys us vs _ d ds parts) (then x xs) good e =
          one_more x xs (joined us) (joined vs) (joined ws)
          (element_back y us d x (All-front Good (atoms x) (atoms_in_order xs) good) (cc))
          (all_back ys vs ds xs (All-rest Good (atoms x) (atoms_in_order xs) good) (cc))
          (ap joined parts ∙ joined-append us vs)

      -- one of some alternatives
      pub one_back : (ys : Alternatives D) (us : List (List W)) → SpellsOne ys us → (xs : Alternatives A)
          → All Good (atoms_of_either xs) → ys ≡ either_over f (either_bind g xs) → DerivesOne Reads Calls rules xs (joined us)
      one_back _ us (this y ys _ d) none good e = absurd (let n : ⊥ = cc in n)
      one_back _ us (this y ys _ d) (or x xs) good e =
          this x xs (joined us) (all_back y us d x (All-front Good (atoms_in_order x) (atoms_of_either xs) good) (cc))
      one_back _ us (another y ys _ d) none good e = absurd (let n : ⊥ = cc in n)
      one_back _ us (another y ys _ d) (or x xs) good e =
          another x xs (joined us) (one_back ys us d xs (All-rest Good (atoms_in_order x) (atoms_of_either xs) good) (cc))

  -- two parts, each joined of letters
  joins : (u v w : List W) (us vs : List (List W)) → w ≡ u ++ v → u ≡ joined us → v ≡ joined vs → w ≡ joined (us ++ vs)
  joins u v w us vs parts e h = parts ∙ (ap (λ (x : List W). x ++ v) e
      ∙ (ap (λ (x : List W). joined us ++ x) h ∙ sym (joined-append us vs)))

  module _ (Named : ℕ → List W → Type 0) (good_rules : (k : ℕ) (xs : Alternatives A) → slice_get rules k ≡ Some xs
      → All Good (atoms_of_either xs))
      (reads : (a : A) (w : List W) → Good a → Reads a w → (us : List (List W)) × Spells (over f (g a)) us × (w ≡ joined us))
      (calls : (a : A) (k : ℕ) (w : List W) → Calls a k → Named k w → Spells (over f (g a)) (w ∷ []))
      (named : (k : ℕ) (xs : Alternatives A) (us : List (List W)) → slice_get rules k ≡ Some xs
      → SpellsOne (either_over f (either_bind g xs)) us → Named k (joined us)) where
    mutual
      -- what an element derives is joined of letters
      pub element_on : (x : Element A) (w : List W) → All Good (atoms x) → Derives Reads Calls rules x w
          → (us : List (List W)) × Spells (over f (bind g x)) us × (w ≡ joined us)
      element_on _ w good (an_atom a _ r) = reads a w (All-head Good a [] good) r
      element_on _ w good (a_call a k xs _ c is d) =
          let h = one_on xs w (good_rules k xs is) d in
          (w ∷ [], calls a k w c (subst (Named k) (sym h.2) (named k xs h.0 is h.1)), sym (append-nil w))
      element_on _ w good (a_block label xs _ d) = let h = one_on xs w good d in
          (h.0, a_block label (either_over f (either_bind g xs)) h.0 h.1, h.2)
      element_on _ _ good (left_out label sign xs) = ([], left_out label sign (either_over f (either_bind g xs)), refl)
      element_on _ w good (taken label sign xs _ d) = let h = one_on xs w good d in
          (h.0, taken label sign (either_over f (either_bind g xs)) h.0 h.1, h.2)
      element_on _ _ good (no_turn label sign xs) = ([], no_turn label sign (either_over f (either_bind g xs)), refl)
      element_on _ w good (a_turn label sign xs u v _ d more parts) =
          let h = one_on xs u good d in let k = element_on (block label (Star sign) xs) v good more in (
            h.0 ++ k.0,
            a_turn label sign (either_over f (either_bind g xs)) h.0 k.0 (h.0 ++ k.0) h.1 k.1 refl,
            joins u v w h.0 k.0 parts h.2 k.2,
          )
      element_on _ w good (turns label sign xs u v _ d more parts) =
          let h = one_on xs u good d in let k = element_on (block label (Star sign) xs) v good more in (
            h.0 ++ k.0,
            turns label sign (either_over f (either_bind g xs)) h.0 k.0 (h.0 ++ k.0) h.1 k.1 refl,
            joins u v w h.0 k.0 parts h.2 k.2,
          )

      -- elements one after another
      pub all_on : (xs : Elements A) (w : List W) → All Good (atoms_in_order xs) → DerivesAll Reads Calls rules xs w
          → (us : List (List W)) × SpellsAll (in_order_over f (in_order_bind g xs)) us × (w ≡ joined us)
      all_on _ _ good nothing = ([], nothing, refl)
      all_on _ w good (one_more x xs u v _ d ds parts) =
          let h = element_on x u (All-front Good (atoms x) (atoms_in_order xs) good) d in
          let k = all_on xs v (All-rest Good (atoms x) (atoms_in_order xs) good) ds in (
            h.0 ++ k.0,
            one_more (over f (bind g x)) (in_order_over f (in_order_bind g xs)) h.0 k.0 (h.0 ++ k.0) h.1 k.1 refl,
            joins u v w h.0 k.0 parts h.2 k.2,
          )

      -- one of some alternatives
      pub one_on : (xs : Alternatives A) (w : List W) → All Good (atoms_of_either xs) → DerivesOne Reads Calls rules xs w
          → (us : List (List W)) × SpellsOne (either_over f (either_bind g xs)) us × (w ≡ joined us)
      one_on _ w good (this x xs _ d) =
          let h = all_on x w (All-front Good (atoms_in_order x) (atoms_of_either xs) good) d in
          (h.0, this (in_order_over f (in_order_bind g x)) (either_over f (either_bind g xs)) h.0 h.1, h.2)
      one_on _ w good (another x xs _ d) =
          let h = one_on xs w (All-rest Good (atoms_in_order x) (atoms_of_either xs) good) d in
          (h.0, another (in_order_over f (in_order_bind g x)) (either_over f (either_bind g xs)) h.0 h.1, h.2)
