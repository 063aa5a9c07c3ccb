-- What a proper stack says of the added rule.
use Rattle.std.proofs.Common.{◌≡◌, ℕ, zero, suc, ◌+◌, ◌<◌, ◌⊎◌, inl, inr, List, [], ◌∷◌, length, All, reverse, refl, sym, ◌∙◌, ap, subst, arith, Contains}
use Rattle.std.specs.Prelude.{Some}
use Rattle.std.proofs.lemmas.List.{reverse-append, reverse-reverse}
use Rattle.std.proofs.lemmas.List.Elements.{All-append, All-cons, All-head, All-tail}
use Rattle.g4_tokens.specs.Symbols.{end_of_list}
use Rattle.g4_net.specs.declared.network.State.{State}
use Rattle.g4_net.specs.declared.network.State.TheVariants.{Decision, End, Edge, Call, Empty}
use Rattle.g4_net.specs.AddedRule.{IsApart, IsInside, IsOutside}
use Rattle.g4_net.specs.Leads.{IsTarget, WellFormed}
use Rattle.g4_net.specs.Network.{ParserNetwork, state_at, start_of}
use Rattle.g4_net.specs.Proper.{IsOf, start, further, IsProper, at_bottom, called}
use Rattle.g4_lookahead.proofs.Apart.{AreApart, StandsApart, split, not_both, calls_outside}

-- A state with return states, newest first: without any it is of the added rule. With some it is not, and the newest is a state
-- with the others.
abbrev pub IsStackFor : ℕ → ℕ → List ℕ → Type 0
IsStackFor loop p [] = IsInside loop p
IsStackFor loop p (t ∷ rest) = IsOutside loop p × IsStackFor loop t rest

module _ {looped : List ℕ} (net : ParserNetwork) (rule loop : ℕ) (apart : IsApart net rule loop looped) where
  -- the states of the added rule, one by one
  pub data Inside (p : ℕ) : Type 0 where
    at_call : p ≡ 0 → state_at net p ≡ Some (Call rule 0 loop) → Inside p
    at_last : p ≡ 1 → state_at net p ≡ Some (End 0) → Inside p
    at_loop : p ≡ loop → state_at net p ≡ Some (Decision ((loop + 1) ∷ (loop + 3) ∷ [])) → Inside p
    at_turn : p ≡ loop + 1 → state_at net p ≡ Some (Edge looped (loop + 2)) → Inside p
    after_turn : p ≡ loop + 2 → state_at net p ≡ Some (Empty loop) → Inside p
    at_end : p ≡ loop + 3 → state_at net p ≡ Some (Edge (end_of_list ∷ []) (loop + 4)) → Inside p
    after_end : p ≡ loop + 4 → state_at net p ≡ Some (Empty 1) → Inside p

  pub inside_cases : (p : ℕ) → IsInside loop p → Inside p
  inside_cases p (inl e) = at_call e (ap (λ (q : ℕ). state_at net q) e ∙ apart.added.call)
  inside_cases p (inr (inl e)) = at_last e (ap (λ (q : ℕ). state_at net q) e ∙ apart.added.end)
  inside_cases p (inr (inr (low, high))) = elim
      (let split : (p ≡ loop) ⊎ ((p ≡ loop + 1) ⊎ ((p ≡ loop + 2) ⊎ ((p ≡ loop + 3) ⊎ (p ≡ loop + 4)))) = grind arith in split) [
        | inl e ↦ at_loop e (ap (λ (q : ℕ). state_at net q) e ∙ apart.added.turn_or_leave)
        | inr f ↦ elim f [
          | inl e ↦ at_turn e (ap (λ (q : ℕ). state_at net q) e ∙ apart.added.turn)
          | inr g ↦ elim g [
            | inl e ↦ after_turn e (ap (λ (q : ℕ). state_at net q) e ∙ apart.added.again)
            | inr h ↦ elim h [
              | inl e ↦ at_end e (ap (λ (q : ℕ). state_at net q) e ∙ apart.added.leave)
              | inr e ↦ after_end e (ap (λ (q : ℕ). state_at net q) e ∙ apart.added.last)
            ]
          ]
        ]
      ]

  -- the two targets of its loop
  two_targets : (x y t : ℕ) → Contains (x ∷ y ∷ []) t → (t ≡ x) ⊎ (t ≡ y)
  two_targets x y t (zero, within, p) = inl (sym p)
  two_targets x y t (suc zero, within, p) = inr (sym p)
  two_targets x y t (suc (suc k), within, p) = absurd (omega arith)

  -- the added rule leads to itself
  inside_target : (p t : ℕ) (s : State (List ℕ)) → Inside p → state_at net p ≡ Some s → IsTarget s t → IsInside loop t
  inside_target p t s (at_call e at) is to = let same : s ≡ Call rule 0 loop = cc in
      let target : t ≡ loop = subst (λ (x : State (List ℕ)). IsTarget x t) same to in inr (inr (omega arith, omega arith))
  inside_target p t s (at_last e at) is to = let same : s ≡ End 0 = cc in absurd (subst (λ (x : State (List ℕ)). IsTarget x t) same to)
  inside_target p t s (at_loop e at) is to =
      let same : s ≡ Decision ((loop + 1) ∷ (loop + 3) ∷ []) = cc in
      elim (two_targets (loop + 1) (loop + 3) t (subst (λ (x : State (List ℕ)). IsTarget x t) same to))
      [ inl a ↦ inr (inr (omega arith, omega arith)) | inr b ↦ inr (inr (omega arith, omega arith)) ]
  inside_target p t s (at_turn e at) is to = let same : s ≡ Edge looped (loop + 2) = cc in
      let target : t ≡ loop + 2 = subst (λ (x : State (List ℕ)). IsTarget x t) same to in inr (inr (omega arith, omega arith))
  inside_target p t s (after_turn e at) is to = let same : s ≡ Empty loop = cc in
      let target : t ≡ loop = subst (λ (x : State (List ℕ)). IsTarget x t) same to in inr (inr (omega arith, omega arith))
  inside_target p t s (at_end e at) is to = let same : s ≡ Edge (end_of_list ∷ []) (loop + 4) = cc in
      let target : t ≡ loop + 4 = subst (λ (x : State (List ℕ)). IsTarget x t) same to in inr (inr (omega arith, omega arith))
  inside_target p t s (after_end e at) is to = let same : s ≡ Empty 1 = cc in
      let target : t ≡ 1 = subst (λ (x : State (List ℕ)). IsTarget x t) same to in inr (inl target)

  -- a state of rule 0 is of the added rule
  of_added : (p : ℕ) → IsOf net 0 p → IsInside loop p
  of_added p start = inl refl
  of_added t (further p _ s of is to) = inside_target p t s (inside_cases p (of_added p of)) is to

  -- a state of another rule is not
  of_other : (r p : ℕ) → IsOutside loop (start_of r) → IsOf net r p → IsOutside loop p
  of_other r p out start = out
  of_other r t out (further p _ s of is to) = apart.targets p t s (of_other r p out of) is to

  -- a proper stack ends in the added rule, and nothing else of it is there
  pub stack_for : (p : ℕ) (returns : List ℕ) → IsProper net p returns → IsStackFor loop p returns
  stack_for p _ (at_bottom _ of) = of_added p of
  stack_for p _ (called r _ t more of (q, level, is) proper) =
      (of_other r p (calls_outside net rule loop q r level t apart (split loop q apart.loop_from) is) of, stack_for t more proper)

  -- so only the oldest return state may be of the added rule
  are_apart : (p : ℕ) (returns : List ℕ) → IsStackFor loop p returns → AreApart loop returns
  are_apart p [] h = tt
  are_apart p (t ∷ []) h = tt
  are_apart p (t ∷ u ∷ more) h = (h.1.0, are_apart t (u ∷ more) h.1)

  -- and a state of the added rule has none
  alone : (p : ℕ) (returns : List ℕ) → IsStackFor loop p returns → IsInside loop p → returns ≡ []
  alone p [] h i = refl
  alone p (t ∷ rest) h i = absurd (not_both loop p apart.loop_from i h.0)

  -- both of a proper stack
  pub stands_apart : (p : ℕ) (returns : List ℕ) → IsProper net p returns → StandsApart loop p returns
  stands_apart p returns proper =
      let h = stack_for p returns proper in
      record { alone = alone p returns h; apart = are_apart p returns h }

-- the return states of a proper stack are states of the network
pub proper_within : (net : ParserNetwork) (p : ℕ) (returns : List ℕ) → WellFormed net → IsProper net p returns
    → All (λ t. t < length net.states) returns
proper_within net p _ well (at_bottom _ of) = λ k d less. absurd (omega arith)
proper_within net p _ well (called r _ t more of (q, level, is) proper) =
    All-cons (λ t. t < length net.states) t more (well.targets q t (Call r level t) is refl) (proper_within net t more well proper)

-- the same of return states the other way
pub turned_within : (net : ParserNetwork) (p : ℕ) (returns : List ℕ) → WellFormed net → IsProper net p (reverse returns)
    → All (λ t. t < length net.states) returns
turned_within net p returns well proper = subst (All (λ t. t < length net.states)) (reverse-reverse returns)
    (turned (reverse returns) (proper_within net p (reverse returns) well proper))
  where
    turned : (xs : List ℕ) → All (λ t. t < length net.states) xs → All (λ t. t < length net.states) (reverse xs)
    turned [] h = h
    turned (x ∷ xs) h =
        let last : All (λ t. t < length net.states) (x ∷ []) =
        All-cons (λ t. t < length net.states) x [] (All-head (λ t. t < length net.states) x xs h)
        (λ k d lt. absurd (omega (arith, lt))) in
        subst (All (λ t. t < length net.states)) (sym (reverse-append (x ∷ []) xs))
        (All-append (λ t. t < length net.states) (reverse xs) (x ∷ []) (turned xs (All-tail (λ t. t < length net.states) x xs h)) last)

-- an edge keeps a proper stack
pub proper_target : {net : ParserNetwork} (p t : ℕ) (s : State (List ℕ)) (returns : List ℕ) → state_at net p ≡ Some s → IsTarget s t
    → IsProper net p returns → IsProper net t returns
proper_target p t s _ is to (at_bottom _ of) = at_bottom t (further p t s of is to)
proper_target p t s _ is to (called r _ u more of back proper) = called r t u more (further p t s of is to) back proper

-- so does a call, which adds its return state
pub proper_call : (net : ParserNetwork) (p rule level back : ℕ) (returns : List ℕ) → state_at net p ≡ Some (Call rule level back)
    → IsProper net p returns → IsProper net (start_of rule) (back ∷ returns)
proper_call net p rule level back returns is h =
    called rule (start_of rule) back returns start (p, level, is) (proper_target p back (Call rule level back) returns is refl h)

-- and so does a return
pub proper_return : (net : ParserNetwork) (p t : ℕ) (more : List ℕ) → IsProper net p (t ∷ more) → IsProper net t more
proper_return net p t more (called _ _ _ _ of back proper) = proper
