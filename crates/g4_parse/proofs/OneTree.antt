-- A run has at most one tree outside all open rules: that of the start rule, once it is closed.
use Rattle.std.proofs.Common.{◌≡◌, ◌+◌, ◌∷◌, [], ℕ, zero, suc, List, refl, sym, ◌∙◌, ap, subst, arith}
use Rattle.std.specs.Prelude.{Option, Some, None}
use Rattle.std.specs.List.{Contains}
use Rattle.g4_tokens.specs.Symbols.{end_of_list}
use Rattle.g4_net.specs.declared.network.State.{State}
use Rattle.g4_net.specs.declared.network.State.TheVariants.{Decision, End, Edge, Call, Predicate, Level, Action, Empty}
use Rattle.g4_net.specs.Network.{ParserNetwork, state_at, written_at}
use Rattle.g4_net.specs.Leads.{IsTarget}
use Rattle.g4_net.specs.AddedRule.{IsRunnable}
use Rattle.g4_lookahead.proofs.Proper.{IsStackFor, Inside, at_call, at_last, at_loop, at_turn, after_turn, at_end, after_end, inside_cases, stack_for}
use Rattle.g4_trees.specs.Trees.{Tree, Forest, no_tree, and_then, only}
use Rattle.g4_run.proofs.Moments.{first_in, backs_alt, backs_token, backs_wrapped, tree_token}
use Rattle.g4_run.specs.Running.{Frame, Run, ClosesBy, begun, node_of, backs, Values}
use Rattle.g4_parse.proofs.Stages.{Stage}
use Rattle.g4_parse.proofs.Steps.{ProceedsBy, Proceeds}

-- what is outside the open rules, which have these return states, newest first: nothing before the start rule is called and
-- while it is open, and then one tree
abbrev pub HasOneTree : List ℕ → ℕ → Forest → Type 0
HasOneTree [] p tree = (p ≡ 0 → tree ≡ no_tree) × ((p ≡ 0 → ⊥) → (t : Tree) × (tree ≡ only t))
HasOneTree (b ∷ []) p tree = (tree ≡ no_tree) × (b ≡ 0 → ⊥)
HasOneTree (b ∷ c ∷ bs) p tree = HasOneTree (c ∷ bs) p tree

-- while a rule is open it does not depend on the state
anywhere : (b : ℕ) (bs : List ℕ) (p q : ℕ) (tree : Forest) → HasOneTree (b ∷ bs) p tree → HasOneTree (b ∷ bs) q tree
anywhere b [] p q tree h = h
anywhere b (c ∷ bs) p q tree h = anywhere c bs p q tree h

-- at another state
moved : (bs : List ℕ) (p q : ℕ) (tree : Forest) → (bs ≡ [] → (p ≡ 0 → ⊥) × (q ≡ 0 → ⊥)) → HasOneTree bs p tree → HasOneTree bs q tree
moved [] p q tree apart h = (λ e. absurd ((apart refl).1 e), λ n. h.1 (apart refl).0)
moved (b ∷ bs) p q tree apart h = anywhere b bs p q tree h

module _ {looped : List ℕ} (net : ParserNetwork) (rule loop : ℕ) (ready : IsRunnable net rule loop looped) (n : ℕ)
    (values : Values) where
  -- the added rule never comes back to its start
  never_back : (p t : ℕ) (s : State (List ℕ)) → Inside net rule loop ready.apart p → state_at net p ≡ Some s → IsTarget s t → t ≡ 0 → ⊥
  never_back p t s (at_call e at) is to z = let same : s ≡ Call rule 0 loop = cc in
      let target : t ≡ loop = subst (λ (x : State (List ℕ)). IsTarget x t) same to in let low = ready.apart.loop_from in omega arith
  never_back p t s (at_last e at) is to z = let same : s ≡ End 0 = cc in subst (λ (x : State (List ℕ)). IsTarget x t) same to
  never_back p t s (at_loop e at) is to z = let same : s ≡ Decision ((loop + 1) ∷ (loop + 3) ∷ []) = cc in
      let low = ready.apart.loop_from in of_two (loop + 1) (loop + 3) (subst (λ (x : State (List ℕ)). IsTarget x t) same to)
      (λ f. omega arith) (λ f. omega arith)
    where
      of_two : (x y : ℕ) → Contains (x ∷ y ∷ []) t → (t ≡ x → ⊥) → (t ≡ y → ⊥) → ⊥
      of_two x y (zero, within, f) a b = a (sym f)
      of_two x y (suc zero, within, f) a b = b (sym f)
      of_two x y (suc (suc k), within, f) a b = omega arith
  never_back p t s (at_turn e at) is to z = let same : s ≡ Edge looped (loop + 2) = cc in
      let target : t ≡ loop + 2 = subst (λ (x : State (List ℕ)). IsTarget x t) same to in omega arith
  never_back p t s (after_turn e at) is to z = let same : s ≡ Empty loop = cc in
      let target : t ≡ loop = subst (λ (x : State (List ℕ)). IsTarget x t) same to in let low = ready.apart.loop_from in omega arith
  never_back p t s (at_end e at) is to z = let same : s ≡ Edge (end_of_list ∷ []) (loop + 4) = cc in
      let target : t ≡ loop + 4 = subst (λ (x : State (List ℕ)). IsTarget x t) same to in omega arith
  never_back p t s (after_end e at) is to z = let same : s ≡ Empty 1 = cc in
      let target : t ≡ 1 = subst (λ (x : State (List ℕ)). IsTarget x t) same to in omega arith

  -- where no rule is open the run is in the added rule
  in_added : (r : Run) → Stage net loop n r → backs r.frames ≡ [] → Inside net rule loop ready.apart r.state
  in_added r h e = inside_cases net rule loop ready.apart r.state
      (subst (λ (bs : List ℕ). IsStackFor loop r.state bs) e (stack_for net rule loop ready.apart r.state (backs r.frames) h.proper))

  -- a state that calls no rule, where none is open, is not its start
  not_start : (r : Run) (s : State (List ℕ)) → state_at net r.state ≡ Some s
      → ((callee level back : ℕ) → s ≡ Call callee level back → ⊥) → r.state ≡ 0 → ⊥
  not_start r s is other z = let at : state_at net r.state ≡ Some (Call rule 0 loop) =
      ap (λ (q : ℕ). state_at net q) z ∙ ready.apart.added.call in other rule 0 loop cc

  -- going along an edge
  along : (r s : Run) (x : State (List ℕ)) (t : ℕ) → Stage net loop n r → state_at net r.state ≡ Some x → IsTarget x t
      → ((callee level back : ℕ) → x ≡ Call callee level back → ⊥) → s.state ≡ t → backs s.frames ≡ backs r.frames → s.tree ≡ r.tree
      → HasOneTree (backs r.frames) r.state r.tree → HasOneTree (backs s.frames) s.state s.tree
  along r s x t h is to other a b c one =
      let here : HasOneTree (backs r.frames) s.state r.tree =
      moved (backs r.frames) r.state s.state r.tree
      (λ e. (not_start r x is other, λ z. never_back r.state t x (in_added r h e) is to (sym a ∙ z))) one in
      rw (b, c) here

  -- closing a rule
  closed : (r : Run) (fs : List Frame) (s : Run) → r.frames ≡ fs → ClosesBy net values [] r fs s
      → HasOneTree (backs fs) r.state r.tree → HasOneTree (backs s.frames) s.state s.tree
  closed r [] s e g one = absurd g
  closed r (f ∷ []) s e g one =
      let tree : s.tree ≡ only (node_of f) = ap (λ (x : Run). x.tree) g ∙ ap (λ (ts : Forest). and_then ts (only (node_of f))) one.0 in
      let none : backs s.frames ≡ [] = ap (λ (x : Run). backs x.frames) g in
      let state : s.state ≡ f.back = ap (λ (x : Run). x.state) g in
      subst (λ (bs : List ℕ). HasOneTree bs s.state s.tree) (sym none) ((λ z. absurd (one.1 (sym state ∙ z))), λ z. (node_of f, tree))
  closed r (f ∷ k ∷ fs) s e g one =
      let tree : s.tree ≡ r.tree = ap (λ (x : Run). x.tree) g in
      let returns : backs s.frames ≡ k.back ∷ backs fs = ap (λ (x : Run). backs x.frames) g in
      rw (returns, tree) (anywhere k.back (backs fs) r.state s.state r.tree one)

  -- calling one
  called_one : (r s : Run) (callee level back : ℕ) (fs : List Frame) → r.frames ≡ fs → Stage net loop n r
      → state_at net r.state ≡ Some (Call callee level back) → backs s.frames ≡ back ∷ backs fs → s.tree ≡ r.tree
      → HasOneTree (backs fs) r.state r.tree → HasOneTree (backs s.frames) s.state s.tree
  called_one r s callee level back [] e h is b c one = rw (b, c) (of_start (in_added r h (ap backs e)))
    where
      of_start : Inside net rule loop ready.apart r.state → (r.tree ≡ no_tree) × (back ≡ 0 → ⊥)
      of_start (at_call z at) = (one.0 z, λ f. let same : back ≡ loop = cc in let low = ready.apart.loop_from in omega arith)
      of_start (at_last z at) = absurd (let k : ⊥ = cc in k)
      of_start (at_loop z at) = absurd (let k : ⊥ = cc in k)
      of_start (at_turn z at) = absurd (let k : ⊥ = cc in k)
      of_start (after_turn z at) = absurd (let k : ⊥ = cc in k)
      of_start (at_end z at) = absurd (let k : ⊥ = cc in k)
      of_start (after_end z at) = absurd (let k : ⊥ = cc in k)
  called_one r s callee level back (f ∷ fs) e h is b c one = rw (b, c) (anywhere f.back (backs fs) r.state s.state r.tree one)

  -- a step
  one_tree_by : (word : List ℕ) (r s : Run) (o : Option (State (List ℕ))) → state_at net r.state ≡ o → Stage net loop n r
      → ProceedsBy net values word o r s → HasOneTree (backs r.frames) r.state r.tree → HasOneTree (backs s.frames) s.state s.tree
  one_tree_by word r s None is h g one = absurd g
  one_tree_by word r s (Some (Decision targets)) is h (i, t, first, e) one =
      along r s (Decision targets) t h is (first_in net r.state i t targets is first) (λ callee level back f. cc)
      (ap (λ (x : Run). x.state) e) (ap (λ (x : Run). backs x.frames) e ∙ backs_alt (begun net t (state_at net t)) r.frames)
      (ap (λ (x : Run). x.tree) e) one
  one_tree_by word r s (Some (End ended)) is h g one = closed r r.frames s refl (closes_any r.frames g) one
    where
      closes_any : (fs : List Frame) → ClosesBy net values word r fs s → ClosesBy net values [] r fs s
      closes_any [] x = x
      closes_any (f ∷ fs) x = x
  one_tree_by word r s (Some (Edge set t)) is h (a, next, has, e) one =
      along r s (Edge set t) t h is refl (λ callee level back f. cc) (ap (λ (x : Run). x.state) e)
      (ap (λ (x : Run). backs x.frames) e ∙ backs_token r r.frames refl) (ap (λ (x : Run). x.tree) e ∙ tree_token r r.frames) one
  one_tree_by word r s (Some (Call callee level back)) is h (room, e) one =
      called_one r s callee level back r.frames refl h is (ap (λ (x : Run). backs x.frames) e) (ap (λ (x : Run). x.tree) e) one
  one_tree_by word r s (Some (Predicate k t)) is h (holds, e) one =
      along r s (Predicate k t) t h is refl (λ callee level back f. cc) (ap (λ (x : Run). x.state) e)
      (ap (λ (x : Run). backs x.frames) e) (ap (λ (x : Run). x.tree) e) one
  one_tree_by word r s (Some (Level q t)) is h (below, e) one =
      along r s (Level q t) t h is refl (λ callee level back f. cc) (ap (λ (x : Run). x.state) e)
      (ap (λ (x : Run). backs x.frames) e ∙ backs_wrapped (written_at net r.state) r.frames) (ap (λ (x : Run). x.tree) e) one
  one_tree_by word r s (Some (Action t)) is h e one =
      along r s (Action t) t h is refl (λ callee level back f. cc) (ap (λ (x : Run). x.state) e) (ap (λ (x : Run). backs x.frames) e)
      (ap (λ (x : Run). x.tree) e) one
  one_tree_by word r s (Some (Empty t)) is h e one =
      along r s (Empty t) t h is refl (λ callee level back f. cc) (ap (λ (x : Run). x.state) e) (ap (λ (x : Run). backs x.frames) e)
      (ap (λ (x : Run). x.tree) e) one

  pub one_tree_on : (word : List ℕ) (r s : Run) → Stage net loop n r → Proceeds net values word r s
      → HasOneTree (backs r.frames) r.state r.tree → HasOneTree (backs s.frames) s.state s.tree
  one_tree_on word r s h g one = one_tree_by word r s (state_at net r.state) refl h g one

  -- at the end of a rule, where none is open, there is one tree
  pub ended_tree : (r : Run) (ended : ℕ) → r.frames ≡ [] → state_at net r.state ≡ Some (End ended)
      → HasOneTree (backs r.frames) r.state r.tree → (t : Tree) × (r.tree ≡ only t)
  ended_tree r ended e is one = (subst (λ (fs : List Frame). HasOneTree (backs fs) r.state r.tree) e one).1
      (not_start r (End ended) is (λ callee level back f. cc))
