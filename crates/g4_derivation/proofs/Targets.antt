-- To which states the edges of elements lead: among an element's own states and the one where it begins. A decision never
-- leads to the state where its element begins.
use Rattle.std.proofs.Common.{◌≡◌, ℕ, ◌+◌, ◌<◌, ◌≤◌, ◌⊎◌, inl, inr, List, Bool, Option, Some, None, refl, sym, ◌∙◌, subst, arith, Contains}
use native.Mathlib.Decide.{dec_lt}
use Rattle.g4_source.specs.Elements.{Element, Elements, Alternatives}
use Rattle.g4_grammar.specs.declared.step.Step.{Step}
use Rattle.g4_net.specs.declared.network.Network.{Network}
use Rattle.g4_net.specs.declared.network.State.{State}
use Rattle.g4_net.specs.declared.network.State.TheVariants.{Decision, End, Edge, Call, Predicate, Level, Action, Empty}
use Rattle.g4_net.specs.Leads.{IsTarget}
use Rattle.g4_net.specs.Network.{state_at}
use Rattle.g4_layout.specs.Layout.{AllLeadTo, with_exit, Lies, an_edge, a_call, a_predicate, a_level, an_action, an_empty, one_alternative, a_block, an_optional, a_star, a_plus_of_one, a_plus, LieInOrder, no_more, one_more, LieSideBySide, no_other, another}
use Rattle.g4_layout.proofs.Ends.{with_exit_cases, at_or_below, at_two}
use Rattle.g4_layout.proofs.Spans.{Spans, lies_spans, in_order_spans, side_by_side_up, firsts_between, member_cases}

-- the targets of a decision are chosen ones, that of any other state is allowed
abbrev pub LeadsOnlyTo : {L : Type 0} → (ℕ → Type 0) → (ℕ → Type 0) → Option (State L) → Type 0
LeadsOnlyTo Chosen Allowed None = Unit {0}
LeadsOnlyTo Chosen Allowed (Some (Decision targets)) = (t : ℕ) → Contains targets t → Chosen t
LeadsOnlyTo Chosen Allowed (Some (End rule)) = ⊥
LeadsOnlyTo Chosen Allowed (Some (Edge label t)) = Allowed t
LeadsOnlyTo Chosen Allowed (Some (Call rule level back)) = Allowed back
LeadsOnlyTo Chosen Allowed (Some (Predicate k t)) = Allowed t
LeadsOnlyTo Chosen Allowed (Some (Level q t)) = Allowed t
LeadsOnlyTo Chosen Allowed (Some (Action t)) = Allowed t
LeadsOnlyTo Chosen Allowed (Some (Empty t)) = Allowed t

-- this holds of the numbers from n up to m
abbrev pub AreAll : (ℕ → Type 0) → ℕ → ℕ → Type 0
AreAll P n m = (q : ℕ) → n ≤ q → q < m → P q

module _ {L : Type 0} (Chosen Allowed : ℕ → Type 0) (chosen_allowed : (q : ℕ) → Chosen q → Allowed q) where
  -- where chosen states are allowed, all targets are
  pub target_allowed : (s : State L) (t : ℕ) → LeadsOnlyTo Chosen Allowed (Some s) → IsTarget s t → Allowed t
  target_allowed (Decision targets) t h is = chosen_allowed t (h t is)
  target_allowed (End rule) t h is = absurd h
  target_allowed (Edge label u) t h is = subst Allowed (sym is) h
  target_allowed (Call rule level back) t h is = subst Allowed (sym is) h
  target_allowed (Predicate k u) t h is = subst Allowed (sym is) h
  target_allowed (Level q u) t h is = subst Allowed (sym is) h
  target_allowed (Action u) t h is = subst Allowed (sym is) h
  target_allowed (Empty u) t h is = subst Allowed (sym is) h

module _ {L : Type 0} (net : Network L) (Chosen Allowed : ℕ → Type 0) where
  -- the state p leads only to such states
  abbrev pub LeadsAt : ℕ → Type 0
  LeadsAt p = LeadsOnlyTo Chosen Allowed (state_at net p)

  -- a state whose edges are known
  pub leads_by : (p : ℕ) (o : Option (State L)) → state_at net p ≡ o → LeadsOnlyTo Chosen Allowed o → LeadsAt p
  leads_by p o is h = subst (LeadsOnlyTo Chosen Allowed) (sym is) h

  -- the last state is allowed
  last_allowed : {s t n m : ℕ} → Spans s t n m → Allowed s → AreAll Allowed n m → Allowed t
  last_allowed spans s_allowed allowed = elim spans.last [ inl same ↦ subst Allowed (sym same) s_allowed | inr h ↦ allowed _ h.0 h.1 ]

  -- a decision between bodies and an exit branch
  exit_leads : {xs : Alternatives (Step L)} {firsts lasts : List ℕ} {n m : ℕ} (p : ℕ) (greedy : Bool) (exit : ℕ)
      → state_at net p ≡ Some (Decision (with_exit greedy firsts exit)) →
      LieSideBySide net xs firsts lasts n m → AreAll Chosen n m → Chosen exit → LeadsAt p
  exit_leads {firsts = firsts} {n = n} {m = m} p greedy exit is l chosen h = leads_by p (Some (Decision (with_exit greedy firsts exit))) is
      (λ t c. elim (with_exit_cases greedy firsts exit t c)
      [ inl same ↦ subst Chosen (sym same) h | inr old ↦ (let b = firsts_between l t old in chosen t b.0 b.1) ])

  -- a decision between bodies
  decision_leads : {xs : Alternatives (Step L)} {firsts lasts : List ℕ} {n m : ℕ} (p : ℕ) → state_at net p ≡ Some (Decision firsts)
      → LieSideBySide net xs firsts lasts n m → AreAll Chosen n m → LeadsAt p
  decision_leads {firsts = firsts} p is l chosen =
      leads_by p (Some (Decision firsts)) is (λ t c. let b = firsts_between l t c in chosen t b.0 b.1)

  mutual
    -- an element's first state is its last, or leads only to such states
    pub first_leads : {x : Element (Step L)} {s t n m : ℕ} → Lies net x s t n m → AreAll Chosen n m → AreAll Allowed n m
        → (t ≡ s) ⊎ LeadsAt s
    first_leads (an_edge label s n is) chosen allowed = inr (leads_by s (Some (Edge label n)) is (allowed n (omega arith) (omega arith)))
    first_leads (a_call rule level s n is) chosen allowed =
        inr (leads_by s (Some (Call rule level n)) is (allowed n (omega arith) (omega arith)))
    first_leads (a_predicate k s n is) chosen allowed = inr (leads_by s (Some (Predicate k n)) is (allowed n (omega arith) (omega arith)))
    first_leads (a_level q s n is) chosen allowed = inr (leads_by s (Some (Level q n)) is (allowed n (omega arith) (omega arith)))
    first_leads (an_action s n is) chosen allowed = inr (leads_by s (Some (Action n)) is (allowed n (omega arith) (omega arith)))
    first_leads (an_empty s n is) chosen allowed = inr (leads_by s (Some (Empty n)) is (allowed n (omega arith) (omega arith)))
    first_leads (one_alternative name x s t n m l) chosen allowed = in_order_first l chosen allowed
    first_leads (a_block name xs firsts lasts s n m two is l a) chosen allowed =
        inr (decision_leads s is l (λ q from below. chosen q from (omega arith)))
    first_leads (an_optional name sign xs firsts lasts s n m is l a exit) chosen allowed =
        let up = side_by_side_up l in inr (exit_leads s sign.greedy m is l (λ q from below. chosen q from (omega arith))
        (chosen m up (omega arith)))
    first_leads (a_star name sign xs firsts lasts s n m is l a) chosen allowed =
        let up = side_by_side_up l in inr (exit_leads s sign.greedy m is l (λ q from below. chosen q from (omega arith))
        (chosen m up (omega arith)))
    first_leads (a_plus_of_one name sign xs first lasts s n m is l a again) chosen allowed =
        let b = firsts_between l first (0, omega arith, refl) in inr (leads_by s (Some (Empty first)) is (allowed first b.0 (omega arith)))
    first_leads (a_plus name sign xs firsts lasts s n m two is l a again) chosen allowed =
        inr (decision_leads s is l (λ q from below. chosen q from (omega arith)))

    -- the same of elements one after another
    pub in_order_first : {xs : Elements (Step L)} {s t n m : ℕ} → LieInOrder net xs s t n m → AreAll Chosen n m → AreAll Allowed n m
        → (t ≡ s) ⊎ LeadsAt s
    in_order_first (no_more s n) chosen allowed = inl refl
    in_order_first (one_more x xs s mid t n k m l ls) chosen allowed =
        let a = lies_spans l in let b = in_order_spans ls in
        elim (first_leads l (λ q from below. chosen q from (omega arith)) (λ q from below. allowed q from (omega arith))) [
          | inl same ↦ elim (in_order_first ls (λ q from below. chosen q (omega arith) below)
              (λ q from below. allowed q (omega arith) below)) [
                | inl last ↦ inl (last ∙ same)
                | inr h ↦ inr (subst LeadsAt same h)
              ]
          | inr h ↦ inr h
        ]

  mutual
    -- each state of an element is its last, or leads only to such states
    pub within_leads : {x : Element (Step L)} {s t n m : ℕ} → Lies net x s t n m → AreAll Chosen n m → AreAll Allowed n m → Allowed s
        → (p : ℕ) → n ≤ p → p < m → (p ≡ t) ⊎ LeadsAt p
    within_leads (an_edge label s n is) chosen allowed s_allowed p from below = inl (omega arith)
    within_leads (a_call rule level s n is) chosen allowed s_allowed p from below = inl (omega arith)
    within_leads (a_predicate k s n is) chosen allowed s_allowed p from below = inl (omega arith)
    within_leads (a_level q s n is) chosen allowed s_allowed p from below = inl (omega arith)
    within_leads (an_action s n is) chosen allowed s_allowed p from below = inl (omega arith)
    within_leads (an_empty s n is) chosen allowed s_allowed p from below = inl (omega arith)
    within_leads (one_alternative name x s t n m l) chosen allowed s_allowed p from below =
        within_in_order l chosen allowed s_allowed p from below
    within_leads (a_block name xs firsts lasts s n m two is l a) chosen allowed s_allowed p from below =
        let up = side_by_side_up l in
        at_or_below {P = λ r. (r ≡ m) ⊎ LeadsAt r} m
        (λ q q_from q_below. inr (within_bodies l m a (λ r r_from r_below apart. chosen r r_from (omega arith))
        (λ r r_from r_below. allowed r r_from (omega arith)) (allowed m up (omega arith)) q q_from q_below))
        (inl refl) p from below
    within_leads (an_optional name sign xs firsts lasts s n m is l a exit) chosen allowed s_allowed p from below =
        let up = side_by_side_up l in let next = allowed (m + 1) (omega arith) (omega arith) in
        at_two {P = λ r. (r ≡ m + 1) ⊎ LeadsAt r} m
        (λ q q_from q_below. inr (within_bodies l (m + 1) a (λ r r_from r_below apart. chosen r r_from (omega arith))
        (λ r r_from r_below. allowed r r_from (omega arith)) next q q_from q_below))
        (inr (leads_by m (Some (Empty (m + 1))) exit next)) (inl refl) p from below
    within_leads (a_star name sign xs firsts lasts s n m is l a) chosen allowed s_allowed p from below =
        at_or_below {P = λ r. (r ≡ m) ⊎ LeadsAt r} m
        (λ q q_from q_below. inr (within_bodies l s a (λ r r_from r_below apart. chosen r r_from (omega arith))
        (λ r r_from r_below. allowed r r_from (omega arith)) s_allowed q q_from q_below))
        (inl refl) p from below
    within_leads (a_plus_of_one name sign xs first lasts s n m is l a again) chosen allowed s_allowed p from below =
        let up = side_by_side_up l in
        at_two {P = λ r. (r ≡ m + 1) ⊎ LeadsAt r} m
        (λ q q_from q_below. inr (within_bodies l m a (λ r r_from r_below apart. chosen r r_from (omega arith))
        (λ r r_from r_below. allowed r r_from (omega arith)) (allowed m up (omega arith)) q q_from q_below))
        (inr (exit_leads m sign.greedy (m + 1) again l (λ r r_from r_below. chosen r r_from (omega arith))
        (chosen (m + 1) (omega arith) (omega arith)))) (inl refl) p from below
    within_leads (a_plus name sign xs firsts lasts s n m two is l a again) chosen allowed s_allowed p from below =
        let up = side_by_side_up l in
        at_two {P = λ r. (r ≡ m + 1) ⊎ LeadsAt r} m
        (λ q q_from q_below. inr (within_bodies l m a (λ r r_from r_below apart. chosen r r_from (omega arith))
        (λ r r_from r_below. allowed r r_from (omega arith)) (allowed m up (omega arith)) q q_from q_below))
        (inr (exit_leads m sign.greedy (m + 1) again l (λ r r_from r_below. chosen r r_from (omega arith))
        (chosen (m + 1) (omega arith) (omega arith)))) (inl refl) p from below

    -- the same of elements one after another
    pub within_in_order : {xs : Elements (Step L)} {s t n m : ℕ} → LieInOrder net xs s t n m → AreAll Chosen n m → AreAll Allowed n m
        → Allowed s → (p : ℕ) → n ≤ p → p < m → (p ≡ t) ⊎ LeadsAt p
    within_in_order (no_more s n) chosen allowed s_allowed p from below = absurd (omega arith)
    within_in_order (one_more x xs s mid t n k m l ls) chosen allowed s_allowed p from below =
        let a = lies_spans l in let b = in_order_spans ls in
        let front : AreAll Allowed n k = λ q q_from q_below. allowed q q_from (omega arith) in
        let rest : AreAll Allowed k m = λ q q_from q_below. allowed q (omega arith) q_below in
        let chosen_rest : AreAll Chosen k m = λ q q_from q_below. chosen q (omega arith) q_below in
        elim (dec_lt p k) [
          | yes before ↦ elim (within_leads l (λ q q_from q_below. chosen q q_from (omega arith)) front s_allowed p from before) [
            | inl same ↦ elim (in_order_first ls chosen_rest rest) [
              | inl last ↦ inl (same ∙ sym last)
              | inr h ↦ inr (subst LeadsAt (sym same) h)
            ]
            | inr h ↦ inr h
          ]
          | no after ↦ within_in_order ls chosen_rest rest (last_allowed a s_allowed front) p (omega arith) below
        ]

    -- All states of bodies that lead to u lead only to such states, where the chosen ones may leave out the bodies' first states.
    pub within_bodies : {xs : Alternatives (Step L)} {firsts lasts : List ℕ} {n m : ℕ} → LieSideBySide net xs firsts lasts n m
        → (u : ℕ) → AllLeadTo net lasts u →
        ((q : ℕ) → n ≤ q → q < m → (Contains firsts q → ⊥) → Chosen q) → AreAll Allowed n m → Allowed u → (p : ℕ) → n ≤ p → p < m
        → LeadsAt p
    within_bodies (no_other n) u a chosen allowed u_allowed p from below = absurd (omega arith)
    within_bodies (another x xs last n k m firsts lasts l ls) u a chosen allowed u_allowed p from below =
        let b = in_order_spans l in let up = side_by_side_up ls in
        let front : AreAll Allowed (n + 1) k = λ q q_from q_below. allowed q (omega arith) (omega arith) in
        let chosen_front : AreAll Chosen (n + 1) k =
        λ q q_from q_below. chosen q (omega arith) (omega arith) (λ c. elim (member_cases n firsts q c) [
          | inl same ↦ absurd (omega arith)
          | inr old ↦ (let f = firsts_between ls q old in absurd (omega (arith, f.0)))
        ]) in
        let at_last : LeadsAt last = leads_by last (Some (Empty u)) a.0 u_allowed in
        elim (dec_lt p k) [
          | yes before ↦ elim (dec_lt n p) [
            | yes inside ↦ elim (within_in_order l chosen_front front (allowed n (omega arith) (omega arith)) p (omega arith) before) [
              | inl same ↦ subst LeadsAt (sym same) at_last
              | inr h ↦ h
            ]
            | no at_first ↦ (let same : n ≡ p = omega arith in subst LeadsAt same (elim (in_order_first l chosen_front front) [
              | inl last_is ↦ subst LeadsAt last_is at_last
              | inr h ↦ h
            ]))
          ]
          | no after ↦ within_bodies ls u a.1 (λ q q_from q_below apart.
              chosen q (omega arith) q_below (λ c. elim (member_cases n firsts q c) [
                | inl same ↦ absurd (omega (arith, b.up))
                | inr old ↦ apart old
              ])) (λ q q_from q_below. allowed q (omega arith) q_below) u_allowed p (omega arith) below
        ]
