-- The added rule derives what the start rule does, and then symbols of its loop and END.
use Rattle.std.proofs.Common.{◌≡◌, ◌<◌, ◌⊎◌, ◌↔◌, ℕ, zero, suc, ◌+◌, List, [], ◌∷◌, ◌++◌, None, Some, replicate, refl, sym, ap, ◌∙◌, subst, slice_get, Contains, append_assoc, arith}
use Rattle.std.proofs.lemmas.List.{append-nil}
use Rattle.g4_tokens.specs.Symbols.{end_of_list}
use Rattle.g4_source.specs.Elements.{Element, atom, block, Elements, empty, then, Alternatives, none, or, only}
use Rattle.g4_grammar.specs.Derives.{Derives, an_atom, a_call, a_block, left_out, taken, no_turn, a_turn, turns, DerivesAll, nothing, one_more, DerivesOne, this, another}
use Rattle.g4_grammar.specs.Steps.{CallsRule, ReadsSymbols, added_rule, any_number}
use Rattle.g4_grammar.specs.declared.step.Step.{Step}
use Rattle.g4_grammar.specs.declared.step.Step.TheVariants.{Edge, Call}
use Rattle.g4_resolve.specs.Derivations.{DerivesByNumber}

-- the only symbol of a set
only_symbol : (x y : ℕ) → Contains (x ∷ []) y → x ≡ y
only_symbol x y (zero, less, is) = is
only_symbol x y (suc k, less, is) = absurd (omega (arith, less))

module _ (symbol : ℕ) (rules : List (Alternatives (Step (List ℕ)))) where
  -- what is derived by the rules
  abbrev DerivesHere : Element (Step (List ℕ)) → List ℕ → Type 0
  DerivesHere = Derives ReadsSymbols CallsRule rules

  -- the turns of the loop, and END
  abbrev turn : Alternatives (Step (List ℕ))
  turn = only (then (atom (Edge (symbol ∷ []))) empty)

  abbrev ending : Elements (Step (List ℕ))
  ending = then (block None any_number turn) (then (atom (Edge (end_of_list ∷ []))) empty)

  -- an edge of one symbol reads this one
  edge_word : (s : ℕ) (w : List ℕ) → DerivesHere (atom (Edge (s ∷ []))) w → w ≡ s ∷ []
  edge_word s w (an_atom _ _ (a, has, is)) = is ∙ ap (λ (x : ℕ). x ∷ []) (sym (only_symbol s a has))
  edge_word s w (a_call _ k xs _ c at d) = absurd c

  edge_reads : (s : ℕ) → DerivesHere (atom (Edge (s ∷ []))) (s ∷ [])
  edge_reads s = an_atom (Edge (s ∷ [])) (s ∷ []) (s, (0, omega arith, refl), refl)

  -- nothing is left after the last element
  last_word : (x : Element (Step (List ℕ))) (w : List ℕ) → DerivesAll ReadsSymbols CallsRule rules (then x empty) w → DerivesHere x w
  last_word x w (one_more _ _ u _ _ d nothing is) = subst (DerivesHere x) (sym (is ∙ append-nil u)) d

  turn_word : (w : List ℕ) → DerivesOne ReadsSymbols CallsRule rules turn w → w ≡ symbol ∷ []
  turn_word w (this _ _ _ d) = edge_word symbol w (last_word (atom (Edge (symbol ∷ []))) w d)
  turn_word w (another _ _ _ d) = absurd (elim d [ ])

  -- the loop derives its symbol any number of times
  loop_word : (w : List ℕ) → DerivesHere (block None any_number turn) w → (n : ℕ) × (w ≡ replicate n symbol)
  loop_word _ (no_turn _ _ _) = (0, refl)
  loop_word w (a_turn _ _ _ u v _ d more is) =
      let rest = loop_word v more in
      (suc rest.0, is ∙ (ap (λ (x : List ℕ). x ++ v) (turn_word u d) ∙ ap (λ (x : List ℕ). symbol ∷ x) rest.1))

  loop_derives : (n : ℕ) → DerivesHere (block None any_number turn) (replicate n symbol)
  loop_derives zero = no_turn None _ turn
  loop_derives (suc n) =
      a_turn None _ turn (symbol ∷ []) (replicate n symbol) (replicate (suc n) symbol)
      (this (then (atom (Edge (symbol ∷ []))) empty) none (symbol ∷ [])
      (one_more (atom (Edge (symbol ∷ []))) empty (symbol ∷ []) [] (symbol ∷ []) (edge_reads symbol) nothing refl))
      (loop_derives n) refl

  -- the end of a list
  end_word : (w : List ℕ) → DerivesAll ReadsSymbols CallsRule rules ending w
      → (n : ℕ) × (w ≡ replicate n symbol ++ end_of_list ∷ [])
  end_word w (one_more _ _ u v _ d ds is) =
      let loop = loop_word u d in
      let last = edge_word end_of_list v (last_word (atom (Edge (end_of_list ∷ []))) v ds) in
      (loop.0, is ∙ (ap (λ (x : List ℕ). x ++ v) loop.1 ∙ ap (λ (x : List ℕ). replicate loop.0 symbol ++ x) last))

  end_derives : (n : ℕ) → DerivesAll ReadsSymbols CallsRule rules ending (replicate n symbol ++ end_of_list ∷ [])
  end_derives n =
      one_more (block None any_number turn) (then (atom (Edge (end_of_list ∷ []))) empty) (replicate n symbol) (end_of_list ∷ [])
      (replicate n symbol ++ end_of_list ∷ []) (loop_derives n)
      (one_more (atom (Edge (end_of_list ∷ []))) empty (end_of_list ∷ []) [] (end_of_list ∷ []) (edge_reads end_of_list) nothing refl) refl

  -- Words of a rule, then the symbol any number of times, and END.
  pub record IsEnded (k : ℕ) (list : List ℕ) : Type 0 where
    pub word : List ℕ
    pub ends : ℕ
    pub parts : list ≡ word ++ (replicate ends symbol ++ end_of_list ∷ [])
    pub derives : DerivesByNumber rules k word

  -- a call of a rule derives what the rule does
  call_word : (k : ℕ) (w : List ℕ) → DerivesHere (atom (Call k 0)) w → DerivesByNumber rules k w
  call_word k w (an_atom _ _ r) = absurd r
  call_word k w (a_call _ j xs _ c is d) = (xs, subst (λ (n : ℕ). slice_get rules n ≡ Some xs) c is, d)

  pub added_word : (k : ℕ) (list : List ℕ) → DerivesOne ReadsSymbols CallsRule rules (added_rule (symbol ∷ []) k) list → IsEnded k list
  added_word k list (this _ _ _ (one_more _ _ u v _ d ds is)) =
      let end = end_word v ds in
      record { word = u; ends = end.0; parts = is ∙ ap (λ (x : List ℕ). u ++ x) end.1; derives = call_word k u d }
  added_word k list (another _ _ _ d) = absurd (elim d [ ])

  pub added_derives : (k : ℕ) (list : List ℕ) → IsEnded k list → DerivesOne ReadsSymbols CallsRule rules (added_rule (symbol ∷ []) k) list
  added_derives k list h =
      this (then (atom (Call k 0)) ending) none list
      (one_more (atom (Call k 0)) ending h.word (replicate h.ends symbol ++ end_of_list ∷ []) list
      (a_call (Call k 0) k h.derives.0 h.word refl h.derives.1 h.derives.2) (end_derives h.ends) h.parts)
