-- A run has at most one ending.
use Rattle.std.proofs.Common.{◌≡◌, ℕ, List, [], ◌∷◌, Option, Some, None, Contains, sym, ◌∙◌, ap, subst, arith}
use Rattle.g4_net.specs.declared.network.State.{State}
use Rattle.g4_net.specs.declared.network.State.TheVariants.{Decision, End, Edge, Call, Predicate, Level, Action, Empty}
use Rattle.g4_net.specs.Network.{ParserNetwork, state_at, IsFirst}
use Rattle.g4_net.specs.Prediction.{Choice, chosen, no_viable}
use Rattle.g4_run.specs.Running.{Frame, Run, Ending, Values, parsed, ClosesBy, GoesBy, StopsBy, Predicts, Runs, stops, goes, deepest}
use Rattle.g4_trees.specs.Trees.{only}
use Rattle.g4_guards.proofs.Choosing.{one_chosen}
use Rattle.g4_lookahead.proofs.OneChoice.{one_first}

module _ (net : ParserNetwork) (values : Values) (word : List ℕ) where
  -- a moment has at most one prediction
  one_prediction : (r : Run) (b c : Choice) → Predicts net values word r b → Predicts net values word r c → b ≡ c
  one_prediction r b c p q = one_chosen net _ _ _ _ b c p q

  -- a rule's end leads to one moment
  closes_once : (r : Run) (fs : List Frame) (s t : Run) → ClosesBy net values word r fs s → ClosesBy net values word r fs t → s ≡ t
  closes_once r [] s t p q = absurd p
  closes_once r (f ∷ fs) s t p q = p ∙ sym q

  -- with no rule open a rule's end leads nowhere
  closes_none : (r : Run) (fs : List Frame) (s : Run) → fs ≡ [] → ClosesBy net values word r fs s → ⊥
  closes_none r [] s e p = p
  closes_none r (f ∷ fs) s e p = cc

  -- a state leads to one moment
  pub goes_once : (o : Option (State (List ℕ))) (r s t : Run) → GoesBy net values word deepest o r s
      → GoesBy net values word deepest o r t → s ≡ t
  goes_once None r s t p q = absurd p
  goes_once (Some (Decision targets)) r s t (i, u, chose, first, s_is) (j, v, chose', first', t_is) =
      let same : chosen i ≡ chosen j = one_prediction r _ _ chose chose' in
      let alternative : i ≡ j = cc in
      let target : u ≡ v = one_first net r.state j u v (subst (λ (n : ℕ). IsFirst net r.state n u) alternative first) first' in
      cc
  goes_once (Some (End rule)) r s t p q = closes_once r r.frames s t p q
  goes_once (Some (Edge set u)) r s t (a, _, _, s_is) (b, _, _, t_is) = s_is ∙ sym t_is
  goes_once (Some (Call rule level back)) r s t p q = p.1 ∙ sym q.1
  goes_once (Some (Predicate k u)) r s t p q = p.1 ∙ sym q.1
  goes_once (Some (Level n u)) r s t p q = p.1 ∙ sym q.1
  goes_once (Some (Action u)) r s t p q = p ∙ sym q
  goes_once (Some (Empty u)) r s t p q = p ∙ sym q

  -- a state stops in one way
  stops_once : (o : Option (State (List ℕ))) (r : Run) (a b : Ending) → StopsBy net values word deepest o r a →
      StopsBy net values word deepest o r b → a ≡ b
  stops_once None r a b p q = absurd p
  stops_once (Some (Decision targets)) r a b (k, said, a_is) (l, said', b_is) =
      let same : no_viable k ≡ no_viable l = one_prediction r _ _ said said' in
      cc
  stops_once (Some (End rule)) r a b (_, _, (t, one, a_is)) (_, _, (u, other, b_is)) =
      let same : only t ≡ only u = sym one ∙ other in
      let tree : t ≡ u = cc in
      a_is ∙ ap parsed tree ∙ sym b_is
  stops_once (Some (Edge set u)) r a b (x, _, _, a_is) (y, _, _, b_is) = a_is ∙ sym b_is
  stops_once (Some (Call rule level back)) r a b p q = p.1 ∙ sym q.1
  stops_once (Some (Predicate k u)) r a b p q = p.1 ∙ sym q.1
  stops_once (Some (Level n u)) r a b p q = p.1 ∙ sym q.1
  stops_once (Some (Action u)) r a b p q = absurd p
  stops_once (Some (Empty u)) r a b p q = absurd p

  -- no state goes on and stops
  pub never_both : (o : Option (State (List ℕ))) (r s : Run) (e : Ending) → GoesBy net values word deepest o r s →
      StopsBy net values word deepest o r e → ⊥
  never_both None r s e p q = p
  never_both (Some (Decision targets)) r s e (i, _, chose, _, _) (k, said, _) =
      let same : chosen i ≡ no_viable k = one_prediction r _ _ chose said in
      cc
  never_both (Some (End rule)) r s e p q = closes_none r r.frames s q.0 p
  never_both (Some (Edge set u)) r s e (a, at, takes, _) (b, at', refuses, _) =
      let same : a ≡ b = cc in
      refuses (subst (λ (n : ℕ). Contains set n) same takes)
  never_both (Some (Call rule level back)) r s e p q = omega (arith, p.0, q.0)
  never_both (Some (Predicate k u)) r s e p q = let holds = p.0 in let fails = q.0 in cc
  never_both (Some (Level n u)) r s e p q = omega (arith, p.0, q.0)
  never_both (Some (Action u)) r s e p q = q
  never_both (Some (Empty u)) r s e p q = q

  -- a run has at most one ending
  pub one_end : (r : Run) (a b : Ending) → Runs net values word deepest r a → Runs net values word deepest r b → a ≡ b
  one_end r a b (stops _ _ p) (stops _ _ q) = stops_once (state_at net r.state) r a b p q
  one_end r a b (stops _ _ p) (goes _ s _ q more) = absurd (never_both (state_at net r.state) r s a q p)
  one_end r a b (goes _ s _ p more) (stops _ _ q) = absurd (never_both (state_at net r.state) r s b p q)
  one_end r a b (goes _ s _ p more) (goes _ t _ q more') =
      let same : t ≡ s = goes_once (state_at net r.state) r t s q p in
      one_end s a b more (subst (λ (x : Run). Runs net values word deepest x b) same more')
