-- Where elements derive letters, each of which is a word, they derive by rules these words joined, and the other way round.
use Rattle.std.proofs.Common.{◌≡◌, ℕ, List, [], ◌∷◌, ◌++◌, Some, refl, sym, ◌∙◌, ap, subst, append-nil, slice_get}
use Rattle.g4_source.specs.Elements.{Element, atom, Elements, Alternatives}
use Rattle.g4_grammar.specs.Derives.{NoCalls, Derives, an_atom, a_call, a_block, left_out, taken, no_turn, a_turn, turns, DerivesAll, nothing, one_more, DerivesOne, this, another}
use Rattle.g4_derivation.proofs.Joined.{joined, joined-append}

module _ {A W : Type 0} (Reads : A → List W → Type 0) (Calls : A → ℕ → Type 0) (rules : List (Alternatives A))
    (Letters : A → List (List W) → Type 0) where
  module _ (back : (a : A) (us : List (List W)) → Letters a us → Derives Reads Calls rules (atom a) (joined us)) where
    mutual
      -- an element derives the joined words
      element_back : (x : Element A) (us : List (List W)) → Derives Letters NoCalls [] x us → Derives Reads Calls rules x (joined us)
      element_back _ us (an_atom a _ r) = back a us r
      element_back _ us (a_call a k xs _ c is d) = absurd c
      element_back _ us (a_block label xs _ d) = a_block label xs (joined us) (one_back xs us d)
      element_back _ _ (left_out label sign xs) = left_out label sign xs
      element_back _ us (taken label sign xs _ d) = taken label sign xs (joined us) (one_back xs us d)
      element_back _ _ (no_turn label sign xs) = no_turn label sign xs
      element_back _ ws (a_turn label sign xs us vs _ d more parts) =
          a_turn label sign xs (joined us) (joined vs) (joined ws) (one_back xs us d) (element_back _ vs more)
          (ap joined parts ∙ joined-append us vs)
      element_back _ ws (turns label sign xs us vs _ d more parts) =
          turns label sign xs (joined us) (joined vs) (joined ws) (one_back xs us d) (element_back _ vs more)
          (ap joined parts ∙ joined-append us vs)

      -- elements one after another
      all_back : (xs : Elements A) (us : List (List W)) → DerivesAll Letters NoCalls [] xs us → DerivesAll Reads Calls rules xs (joined us)
      all_back _ _ nothing = nothing
      all_back _ ws (one_more x xs us vs _ d ds parts) =
          one_more x xs (joined us) (joined vs) (joined ws) (element_back x us d) (all_back xs vs ds)
          (ap joined parts ∙ joined-append us vs)

      -- one of some alternatives
      pub one_back : (xs : Alternatives A) (us : List (List W)) → DerivesOne Letters NoCalls [] xs us →
          DerivesOne Reads Calls rules xs (joined us)
      one_back _ us (this x xs _ d) = this x xs (joined us) (all_back x us d)
      one_back _ us (another x xs _ d) = another x xs (joined us) (one_back xs us d)

  -- two parts, each joined of letters
  joins : (u v w : List W) (us vs : List (List W)) → w ≡ u ++ v → u ≡ joined us → v ≡ joined vs → w ≡ joined (us ++ vs)
  joins u v w us vs parts e h = parts ∙ (ap (λ (x : List W). x ++ v) e
      ∙ (ap (λ (x : List W). joined us ++ x) h ∙ sym (joined-append us vs)))

  module _ (Named : ℕ → List W → Type 0) (reads : (a : A) (w : List W) → Reads a w → (us : List (List W)) × Letters a us ×
      (w ≡ joined us)) (calls : (a : A) (k : ℕ) (w : List W) → Calls a k → Named k w → Letters a (w ∷ []))
      (named : (k : ℕ) (xs : Alternatives A) (us : List (List W)) → slice_get rules k ≡ Some xs → DerivesOne Letters NoCalls [] xs us →
      Named k (joined us)) where
    mutual
      -- what an element derives is joined of letters
      element_on : (x : Element A) (w : List W) → Derives Reads Calls rules x w → (us : List (List W)) × Derives Letters NoCalls [] x us ×
          (w ≡ joined us)
      element_on _ w (an_atom a _ r) = let h = reads a w r in (h.0, an_atom a h.0 h.1, h.2)
      element_on _ w (a_call a k xs _ c is d) =
          let h = one_on xs w d in
          (w ∷ [], an_atom a (w ∷ []) (calls a k w c (subst (Named k) (sym h.2) (named k xs h.0 is h.1))), sym (append-nil w))
      element_on _ w (a_block label xs _ d) = let h = one_on xs w d in (h.0, a_block label xs h.0 h.1, h.2)
      element_on _ _ (left_out label sign xs) = ([], left_out label sign xs, refl)
      element_on _ w (taken label sign xs _ d) = let h = one_on xs w d in (h.0, taken label sign xs h.0 h.1, h.2)
      element_on _ _ (no_turn label sign xs) = ([], no_turn label sign xs, refl)
      element_on _ w (a_turn label sign xs u v _ d more parts) =
          let h = one_on xs u d in let k = element_on _ v more in
          (h.0 ++ k.0, a_turn label sign xs h.0 k.0 (h.0 ++ k.0) h.1 k.1 refl, joins u v w h.0 k.0 parts h.2 k.2)
      element_on _ w (turns label sign xs u v _ d more parts) =
          let h = one_on xs u d in let k = element_on _ v more in
          (h.0 ++ k.0, turns label sign xs h.0 k.0 (h.0 ++ k.0) h.1 k.1 refl, joins u v w h.0 k.0 parts h.2 k.2)

      -- elements one after another
      all_on : (xs : Elements A) (w : List W) → DerivesAll Reads Calls rules xs w → (us : List (List W)) ×
          DerivesAll Letters NoCalls [] xs us × (w ≡ joined us)
      all_on _ _ nothing = ([], nothing, refl)
      all_on _ w (one_more x xs u v _ d ds parts) =
          let h = element_on x u d in let k = all_on xs v ds in
          (h.0 ++ k.0, one_more x xs h.0 k.0 (h.0 ++ k.0) h.1 k.1 refl, joins u v w h.0 k.0 parts h.2 k.2)

      -- one of some alternatives
      pub one_on : (xs : Alternatives A) (w : List W) → DerivesOne Reads Calls rules xs w → (us : List (List W)) ×
          DerivesOne Letters NoCalls [] xs us × (w ≡ joined us)
      one_on _ w (this x xs _ d) = let h = all_on x w d in (h.0, this x xs h.0 h.1, h.2)
      one_on _ w (another x xs _ d) = let h = one_on xs w d in (h.0, another x xs h.0 h.1, h.2)
