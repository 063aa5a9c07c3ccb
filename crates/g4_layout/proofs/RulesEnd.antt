-- Nothing endless leads on from any state of a network of rules, where no loop has a body that derives the empty word
-- and no rule reaches itself by left calls.
use Rattle.std.proofs.Common.{◌≡◌, ℕ, ◌<◌, ◌≤◌, inl, List, [], ◌∷◌, length, Option, Some, None, refl, arith, slice_get}
use Rattle.std.proofs.lemmas.Option.{slice_get_within}
use Rattle.g4_source.specs.Elements.{Alternatives, none}
use Rattle.g4_grammar.specs.declared.step.Step.{Step}
use Rattle.g4_grammar.specs.Steps.{CallsRule, ReadsStep}
use Rattle.g4_grammar.specs.Loops.{SomeHasEmptyLoop, NoEmptyLoop}
use Rattle.g4_grammar.specs.LeftCalls.{OneNullable, this, IsLeftOfOne, SomeHasCall, NoLeftCycle, CallsAreInRange}
use Rattle.g4_net.specs.declared.network.Network.{Network}
use Rattle.g4_net.specs.declared.network.State.{State}
use Rattle.g4_net.specs.Network.{state_at, start_of, end_of}
use Rattle.g4_layout.specs.Layout.{LiesAsRule, of_one, of_several, IsNetworkOf}
use Rattle.g4_layout.proofs.Ends.{EndsAt, ends_by, ends_empty, ends_decision, ends_return, ends_bottom}
use Rattle.g4_layout.proofs.Elements.{CallEnds, in_order_ends, bodies_end, within_in_order_ends, within_bodies_end}
use Rattle.g4_grammar.proofs.Empty.{one_left_is_call}
use Rattle.g4_grammar.proofs.Grounded.{Grounded, grounded, all_grounded}
use Rattle.g4_layout.proofs.Rules.{LaidRule, rule_laid, every_state}

module _ {L : Type 0} (Takes : L → ℕ → Type 0) (rules : List (Alternatives (Step L))) (net : Network L) (i : ℕ) where
  -- what the definitions of derivation take here
  abbrev Reads : Step L → List ℕ → Type 0
  Reads = ReadsStep Takes

  abbrev Calls : Step L → ℕ → Type 0
  Calls = CallsRule

  -- a rule's start ends, if its end does where the rule derives the empty word
  start_ends : {rule n m : ℕ} {xs : Alternatives (Step L)} → LiesAsRule net rule xs n m → (SomeHasEmptyLoop Reads Calls rules xs → ⊥) →
      ((j : ℕ) → IsLeftOfOne Reads Calls rules xs j → CallEnds Takes net rules i j) → (returns : List ℕ)
      → (OneNullable Reads Calls rules xs → EndsAt net i returns (end_of rule)) → EndsAt net i returns (start_of rule)
  start_ends (of_one rule last n m x l leads) loops calls returns h =
      in_order_ends Takes net rules i l (λ e. loops (inl e)) (λ j c. calls j (inl c)) returns
      (λ d. ends_empty net i returns last (end_of rule) leads (h (this x none d)))
  start_ends (of_several rule n m xs firsts lasts two is l a) loops calls returns h =
      ends_decision net i returns (start_of rule) firsts is (bodies_end Takes net rules i l (end_of rule) a loops calls returns h)

  -- the other states of a rule end if its end does
  inside_ends : {rule n m : ℕ} {xs : Alternatives (Step L)} → LiesAsRule net rule xs n m → (SomeHasEmptyLoop Reads Calls rules xs → ⊥) →
      ((j : ℕ) → SomeHasCall Calls xs j → CallEnds Takes net rules i j) → (returns : List ℕ) → EndsAt net i returns (end_of rule)
      → (p : ℕ) → n ≤ p → p < m → EndsAt net i returns p
  inside_ends (of_one rule last n m x l leads) loops calls returns h =
      within_in_order_ends Takes net rules i l (λ e. loops (inl e)) (λ j c. calls j (inl c)) returns
      (ends_empty net i returns last (end_of rule) leads h)
  inside_ends (of_several rule n m xs firsts lasts two is l a) loops calls returns h =
      within_bodies_end Takes net rules i l (end_of rule) a loops calls returns h

module _ {L : Type 0} (Takes : L → ℕ → Type 0) (rules : List (Alternatives (Step L))) (net : Network L)
    (network : IsNetworkOf rules net) (in_range : CallsAreInRange CallsRule rules)
    (no_loop : NoEmptyLoop (ReadsStep Takes) CallsRule rules) (no_cycle : NoLeftCycle (ReadsStep Takes) CallsRule rules) (i : ℕ) where
  -- a call of a rule ends
  call_ends : (j : ℕ) → Grounded (ReadsStep Takes) CallsRule rules j → j < length rules → CallEnds Takes net rules i j
  call_ends j (grounded _ on) below returns back h =
      let r = rule_laid rules net network j below in
      start_ends Takes rules net i r.lies (no_loop j r.alternatives r.is)
      (λ q c. call_ends q (on q (r.alternatives, r.is, c))
      (in_range j q r.alternatives r.is (one_left_is_call (ReadsStep Takes) CallsRule rules r.alternatives q c)))
      (back ∷ returns) (λ d. ends_return net i returns (end_of j) j back r.last (h r.alternatives r.is d))

  -- so does each call that a rule has
  calls_end : (k j : ℕ) (xs : Alternatives (Step L)) → slice_get rules k ≡ Some xs → SomeHasCall CallsRule xs j
      → CallEnds Takes net rules i j
  calls_end k j xs is c = call_ends j (all_grounded (ReadsStep Takes) CallsRule rules no_cycle j) (in_range k j xs is c)

  -- the states of a rule
  rule_start : (k : ℕ) → LaidRule rules net network k → EndsAt net i [] (start_of k)
  rule_start k r = start_ends Takes rules net i r.lies (no_loop k r.alternatives r.is)
      (λ j c. calls_end k j r.alternatives r.is (one_left_is_call (ReadsStep Takes) CallsRule rules r.alternatives j c)) []
      (λ d. ends_bottom net i (end_of k) k r.last)

  rule_inside : (k p : ℕ) (r : LaidRule rules net network k) → r.from ≤ p → p < r.upto → EndsAt net i [] p
  rule_inside k p r from below = inside_ends Takes rules net i r.lies (no_loop k r.alternatives r.is)
      (λ j c. calls_end k j r.alternatives r.is c) [] (ends_bottom net i (end_of k) k r.last) p from below

  -- no state is there
  nowhere : (p : ℕ) (o : Option (State L)) → state_at net p ≡ o → length net.states ≤ p → EndsAt net i [] p
  nowhere p None is past = ends_by net i [] p None is (λ d l. absurd l)
  nowhere p (Some s) is past = let within = slice_get_within net.states p s is in absurd (omega arith)

  -- nothing endless leads on from any state at the bottom
  pub every_state_ends : (p : ℕ) → EndsAt net i [] p
  every_state_ends = every_state rules net network (EndsAt net i []) (λ k r. (rule_start k r, ends_bottom net i (end_of k) k r.last))
      rule_inside (λ p past. nowhere p (state_at net p) refl past)
