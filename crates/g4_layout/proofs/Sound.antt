-- What is at the states of elements: decisions of two or more, and the steps of the elements, to targets among their states.
use Rattle.std.proofs.Common.{◌≡◌, ℕ, ◌+◌, ◌<◌, ◌≤◌, ◌⊎◌, inl, inr, List, [], ◌∷◌, length, Bool, true, false, Option, Some, None, refl, sym, ◌∙◌, subst, arith, Contains}
use Rattle.std.proofs.Math.ListN.{length-append}
use native.Mathlib.Decide.{dec_lt}
use Rattle.g4_source.specs.Elements.{Element, Elements, Alternatives}
use Rattle.g4_source.specs.Full.{IsSome}
use Rattle.g4_grammar.specs.declared.step.Step.{Step}
use Rattle.g4_grammar.specs.declared.step.Step.TheVariants as steps
use Rattle.g4_net.specs.declared.network.Network.{Network}
use Rattle.g4_net.specs.declared.network.State.{State}
use Rattle.g4_net.specs.declared.network.State.TheVariants.{Decision, End, Edge, Call, Predicate, Level, Action, Empty}
use Rattle.g4_net.specs.Leads.{IsTarget}
use Rattle.g4_net.specs.Network.{state_at}
use Rattle.g4_layout.specs.Layout.{AllLeadTo, with_exit, Lies, an_edge, a_call, a_predicate, a_level, an_action, an_empty, one_alternative, a_block, an_optional, a_star, a_plus_of_one, a_plus, LieInOrder, no_more, one_more, LieSideBySide, no_other, another}
use Rattle.g4_layout.proofs.Ends.{with_exit_cases, at_or_below, at_two}
use Rattle.g4_layout.proofs.Spans.{Spans, lies_spans, in_order_spans, side_by_side_up, firsts_between, some_first}
use Rattle.g4_layout.proofs.Trees.{IsSound, AreSound, EachIsSound}

-- a decision of two or more, the end of such a rule, or such a step, each target being allowed
abbrev pub IsSoundState : {L : Type 0} → (Step L → Type 0) → (ℕ → Type 0) → (ℕ → Type 0) → Option (State L) → Type 0
IsSoundState Good Ended Allowed None = Unit {0}
IsSoundState Good Ended Allowed (Some (Decision targets)) = (2 ≤ length targets) × ((t : ℕ) → Contains targets t → Allowed t)
IsSoundState Good Ended Allowed (Some (End rule)) = Ended rule
IsSoundState Good Ended Allowed (Some (Edge label t)) = Good (steps.Edge label) × Allowed t
IsSoundState Good Ended Allowed (Some (Call rule level back)) = Good (steps.Call rule level) × Allowed back
IsSoundState Good Ended Allowed (Some (Predicate k t)) = Good (steps.Predicate k) × Allowed t
IsSoundState Good Ended Allowed (Some (Level q t)) = Good (steps.Level q) × Allowed t
IsSoundState Good Ended Allowed (Some (Action t)) = Good steps.Action × Allowed t
IsSoundState Good Ended Allowed (Some (Empty t)) = Allowed t

-- a decision with an exit branch has one edge more
exit_length : (greedy : Bool) (firsts : List ℕ) (exit : ℕ) → length (with_exit greedy firsts exit) ≡ length firsts + 1
exit_length true firsts exit = length-append firsts (exit ∷ [])
exit_length false firsts exit = omega arith

module _ {L : Type 0} (Good : Step L → Type 0) (Ended Allowed : ℕ → Type 0) where
  -- the targets of a sound state are allowed
  pub target_allowed : (s : State L) (t : ℕ) → IsSoundState Good Ended Allowed (Some s) → IsTarget s t → Allowed t
  target_allowed (Decision targets) t h is = h.1 t is
  target_allowed (End rule) t h is = absurd is
  target_allowed (Edge label u) t h is = subst Allowed (sym is) h.1
  target_allowed (Call rule level back) t h is = subst Allowed (sym is) h.1
  target_allowed (Predicate k u) t h is = subst Allowed (sym is) h.1
  target_allowed (Level q u) t h is = subst Allowed (sym is) h.1
  target_allowed (Action u) t h is = subst Allowed (sym is) h.1
  target_allowed (Empty u) t h is = subst Allowed (sym is) h

module _ {L : Type 0} (net : Network L) (Good : Step L → Type 0) (Ended Allowed : ℕ → Type 0) where
  -- the state p is sound
  abbrev pub SoundAt : ℕ → Type 0
  SoundAt p = IsSoundState Good Ended Allowed (state_at net p)

  -- a state whose edges are known
  pub sound_by : (p : ℕ) (o : Option (State L)) → state_at net p ≡ o → IsSoundState Good Ended Allowed o → SoundAt p
  sound_by p o is h = subst (IsSoundState Good Ended Allowed) (sym is) h

  -- these states are allowed
  abbrev pub AreAllowed : ℕ → ℕ → Type 0
  AreAllowed n m = (q : ℕ) → n ≤ q → q < m → Allowed q

  -- the last state is allowed
  last_allowed : {s t n m : ℕ} → Spans s t n m → Allowed s → AreAllowed n m → Allowed t
  last_allowed spans s_allowed allowed = elim spans.last [ inl same ↦ subst Allowed (sym same) s_allowed | inr h ↦ allowed _ h.0 h.1 ]

  -- a decision with an exit branch
  sound_exit : {xs : Alternatives (Step L)} {firsts lasts : List ℕ} {n m : ℕ} (p : ℕ) (greedy : Bool) (exit : ℕ)
      → state_at net p ≡ Some (Decision (with_exit greedy firsts exit)) →
      LieSideBySide net xs firsts lasts n m → IsSome xs → AreAllowed n m → Allowed exit → SoundAt p
  sound_exit {firsts = firsts} {n = n} {m = m} p greedy exit is l some allowed h =
      let one_at_least = some_first l some in let long = exit_length greedy firsts exit in
      sound_by p (Some (Decision (with_exit greedy firsts exit))) is (omega arith, targets)
    where
      targets : (t : ℕ) → Contains (with_exit greedy firsts exit) t → Allowed t
      targets t c = elim (with_exit_cases greedy firsts exit t c)
          [ inl same ↦ subst Allowed (sym same) h | inr old ↦ (let b = firsts_between l t old in allowed t b.0 b.1) ]

  mutual
    -- an element's first state is its last, or sound
    pub first_sound : {x : Element (Step L)} {s t n m : ℕ} → Lies net x s t n m → IsSound Good x → AreAllowed n m → (t ≡ s) ⊎ SoundAt s
    first_sound (an_edge label s n is) sound allowed =
        inr (sound_by s (Some (Edge label n)) is (sound, allowed n (omega arith) (omega arith)))
    first_sound (a_call rule level s n is) sound allowed =
        inr (sound_by s (Some (Call rule level n)) is (sound, allowed n (omega arith) (omega arith)))
    first_sound (a_predicate k s n is) sound allowed =
        inr (sound_by s (Some (Predicate k n)) is (sound, allowed n (omega arith) (omega arith)))
    first_sound (a_level q s n is) sound allowed = inr (sound_by s (Some (Level q n)) is (sound, allowed n (omega arith) (omega arith)))
    first_sound (an_action s n is) sound allowed = inr (sound_by s (Some (Action n)) is (sound, allowed n (omega arith) (omega arith)))
    first_sound (an_empty s n is) sound allowed = inr (sound_by s (Some (Empty n)) is (allowed n (omega arith) (omega arith)))
    first_sound (one_alternative name x s t n m l) sound allowed = in_order_sound l sound.1.0 allowed
    first_sound (a_block name xs firsts lasts s n m two is l a) sound allowed =
        inr (sound_by s (Some (Decision firsts)) is (two, λ t c. let b = firsts_between l t c in allowed t b.0 (omega arith)))
    first_sound (an_optional name sign xs firsts lasts s n m is l a exit) sound allowed =
        let up = side_by_side_up l in inr (sound_exit s sign.greedy m is l sound.0 (λ q from below. allowed q from (omega arith))
        (allowed m up (omega arith)))
    first_sound (a_star name sign xs firsts lasts s n m is l a) sound allowed =
        let up = side_by_side_up l in inr (sound_exit s sign.greedy m is l sound.0 (λ q from below. allowed q from (omega arith))
        (allowed m up (omega arith)))
    first_sound (a_plus_of_one name sign xs first lasts s n m is l a again) sound allowed =
        let b = firsts_between l first (0, omega arith, refl) in inr (sound_by s (Some (Empty first)) is (allowed first b.0 (omega arith)))
    first_sound (a_plus name sign xs firsts lasts s n m two is l a again) sound allowed =
        inr (sound_by s (Some (Decision firsts)) is (two, λ t c. let b = firsts_between l t c in allowed t b.0 (omega arith)))

    -- the same of elements one after another
    pub in_order_sound : {xs : Elements (Step L)} {s t n m : ℕ} → LieInOrder net xs s t n m → AreSound Good xs → AreAllowed n m
        → (t ≡ s) ⊎ SoundAt s
    in_order_sound (no_more s n) sound allowed = inl refl
    in_order_sound (one_more x xs s mid t n k m l ls) sound allowed =
        let a = lies_spans l in let b = in_order_spans ls in
        elim (first_sound l sound.0 (λ q from below. allowed q from (omega arith))) [
          | inl same ↦ elim (in_order_sound ls sound.1 (λ q from below. allowed q (omega arith) below)) [
            | inl last ↦ inl (last ∙ same)
            | inr h ↦ inr (subst SoundAt same h)
          ]
          | inr h ↦ inr h
        ]

  mutual
    -- each state of an element is its last, or sound
    pub within_sound : {x : Element (Step L)} {s t n m : ℕ} → Lies net x s t n m → IsSound Good x → Allowed s → AreAllowed n m
        → (p : ℕ) → n ≤ p → p < m → (p ≡ t) ⊎ SoundAt p
    within_sound (an_edge label s n is) sound s_allowed allowed p from below = inl (omega arith)
    within_sound (a_call rule level s n is) sound s_allowed allowed p from below = inl (omega arith)
    within_sound (a_predicate k s n is) sound s_allowed allowed p from below = inl (omega arith)
    within_sound (a_level q s n is) sound s_allowed allowed p from below = inl (omega arith)
    within_sound (an_action s n is) sound s_allowed allowed p from below = inl (omega arith)
    within_sound (an_empty s n is) sound s_allowed allowed p from below = inl (omega arith)
    within_sound (one_alternative name x s t n m l) sound s_allowed allowed p from below =
        within_in_order_sound l sound.1.0 s_allowed allowed p from below
    within_sound (a_block name xs firsts lasts s n m two is l a) sound s_allowed allowed p from below =
        let up = side_by_side_up l in
        at_or_below {P = λ r. (r ≡ m) ⊎ SoundAt r} m
        (λ q q_from q_below. inr (within_bodies_sound l m a sound.1 (λ r r_from r_below. allowed r r_from (omega arith))
        (allowed m up (omega arith)) q q_from q_below))
        (inl refl) p from below
    within_sound (an_optional name sign xs firsts lasts s n m is l a exit) sound s_allowed allowed p from below =
        let up = side_by_side_up l in let next = allowed (m + 1) (omega arith) (omega arith) in
        at_two {P = λ r. (r ≡ m + 1) ⊎ SoundAt r} m
        (λ q q_from q_below. inr (within_bodies_sound l (m + 1) a sound.1 (λ r r_from r_below. allowed r r_from (omega arith)) next q
        q_from q_below))
        (inr (sound_by m (Some (Empty (m + 1))) exit next)) (inl refl) p from below
    within_sound (a_star name sign xs firsts lasts s n m is l a) sound s_allowed allowed p from below =
        at_or_below {P = λ r. (r ≡ m) ⊎ SoundAt r} m
        (λ q q_from q_below. inr (within_bodies_sound l s a sound.1 (λ r r_from r_below. allowed r r_from (omega arith)) s_allowed q
        q_from q_below))
        (inl refl) p from below
    within_sound (a_plus_of_one name sign xs first lasts s n m is l a again) sound s_allowed allowed p from below =
        let up = side_by_side_up l in
        at_two {P = λ r. (r ≡ m + 1) ⊎ SoundAt r} m
        (λ q q_from q_below. inr (within_bodies_sound l m a sound.1 (λ r r_from r_below. allowed r r_from (omega arith))
        (allowed m up (omega arith)) q q_from q_below))
        (inr (sound_exit m sign.greedy (m + 1) again l sound.0 (λ r r_from r_below. allowed r r_from (omega arith))
        (allowed (m + 1) (omega arith) (omega arith)))) (inl refl) p from below
    within_sound (a_plus name sign xs firsts lasts s n m two is l a again) sound s_allowed allowed p from below =
        let up = side_by_side_up l in
        at_two {P = λ r. (r ≡ m + 1) ⊎ SoundAt r} m
        (λ q q_from q_below. inr (within_bodies_sound l m a sound.1 (λ r r_from r_below. allowed r r_from (omega arith))
        (allowed m up (omega arith)) q q_from q_below))
        (inr (sound_exit m sign.greedy (m + 1) again l sound.0 (λ r r_from r_below. allowed r r_from (omega arith))
        (allowed (m + 1) (omega arith) (omega arith)))) (inl refl) p from below

    -- the same of elements one after another
    pub within_in_order_sound : {xs : Elements (Step L)} {s t n m : ℕ} → LieInOrder net xs s t n m → AreSound Good xs → Allowed s
        → AreAllowed n m → (p : ℕ) → n ≤ p → p < m → (p ≡ t) ⊎ SoundAt p
    within_in_order_sound (no_more s n) sound s_allowed allowed p from below = absurd (omega arith)
    within_in_order_sound (one_more x xs s mid t n k m l ls) sound s_allowed allowed p from below =
        let a = lies_spans l in let b = in_order_spans ls in
        let front : AreAllowed n k = λ q q_from q_below. allowed q q_from (omega arith) in
        let rest : AreAllowed k m = λ q q_from q_below. allowed q (omega arith) q_below in
        elim (dec_lt p k) [
          | yes before ↦ elim (within_sound l sound.0 s_allowed front p from before) [
            | inl same ↦ elim (in_order_sound ls sound.1 rest) [
              | inl last ↦ inl (same ∙ sym last)
              | inr h ↦ inr (subst SoundAt (sym same) h)
            ]
            | inr h ↦ inr h
          ]
          | no after ↦ within_in_order_sound ls sound.1 (last_allowed a s_allowed front) rest p (omega arith) below
        ]

    -- all states of bodies that lead to u are sound
    pub within_bodies_sound : {xs : Alternatives (Step L)} {firsts lasts : List ℕ} {n m : ℕ} → LieSideBySide net xs firsts lasts n m
        → (u : ℕ) → AllLeadTo net lasts u → EachIsSound Good xs →
        AreAllowed n m → Allowed u → (p : ℕ) → n ≤ p → p < m → SoundAt p
    within_bodies_sound (no_other n) u a sound allowed u_allowed p from below = absurd (omega arith)
    within_bodies_sound (another x xs last n k m firsts lasts l ls) u a sound allowed u_allowed p from below =
        let b = in_order_spans l in let up = side_by_side_up ls in
        let front : AreAllowed (n + 1) k = λ q q_from q_below. allowed q (omega arith) (omega arith) in
        let at_last : SoundAt last = sound_by last (Some (Empty u)) a.0 u_allowed in
        elim (dec_lt p k) [
          | yes before ↦ elim (dec_lt n p) [
            | yes inside ↦ elim (within_in_order_sound l sound.0 (allowed n (omega arith) (omega arith)) front p (omega arith) before) [
              | inl same ↦ subst SoundAt (sym same) at_last
              | inr h ↦ h
            ]
            | no at_first ↦ (let same : n ≡ p = omega arith in subst SoundAt same (elim (in_order_sound l sound.0 front) [
              | inl last_is ↦ subst SoundAt last_is at_last
              | inr h ↦ h
            ]))
          ]
          | no after ↦ within_bodies_sound ls u a.1 sound.1 (λ q q_from q_below. allowed q (omega arith) q_below) u_allowed p
              (omega arith) below
        ]
