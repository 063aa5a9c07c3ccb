-- A walk to a rule's end that comes to where an element begins goes through the element: it first reads a word that the
-- element derives.
use Rattle.std.proofs.Common.{◌≡◌, ℕ, zero, suc, ◌+◌, ◌≤◌, inl, inr, List, [], ◌∷◌, ◌++◌, Option, Some, refl, sym, ◌∙◌, ap, subst, append_assoc, arith, Contains}
use Rattle.g4_source.specs.declared.name.Label.{Label}
use Rattle.g4_source.specs.declared.element.Suffix.{Suffix}
use Rattle.g4_source.specs.declared.element.Repeat.TheVariants.{Once, Optional, Star, Plus}
use Rattle.g4_source.specs.Elements.{Element, atom, block, Elements, then, Alternatives, none, or, only}
use Rattle.g4_grammar.specs.declared.step.Step.{Step}
use Rattle.g4_grammar.specs.declared.step.Step.TheVariants as steps
use Rattle.g4_grammar.specs.Derives.{NoCalls, Derives, an_atom, a_block, left_out, taken, no_turn, a_turn, turns, DerivesAll, nothing, one_more, DerivesOne, this, another}
use Rattle.g4_net.specs.declared.network.Network.{Network}
use Rattle.g4_net.specs.declared.network.State.{State}
use Rattle.g4_net.specs.declared.network.State.TheVariants.{Decision, End, Edge, Call, Predicate, Level, Action, Empty}
use Rattle.g4_net.specs.Network.{state_at}
use Rattle.g4_layout.specs.Layout.{with_exit, AllLeadTo, Lies, LieInOrder, LieSideBySide}
use Rattle.g4_layout.specs.Layout as lay
use Rattle.g4_layout.proofs.Ends.{with_exit_cases}
use Rattle.g4_layout.proofs.Spans.{member_cases}
use Rattle.g4_derivation.specs.Walks.{ReadsLetter, MovesBy, Walk}
use Rattle.g4_derivation.proofs.Steps.{GoesOn, onward}

module _ {L C : Type 0} (Takes : L → C → Type 0) (Names : ℕ → C → Type 0) (Passes : ℕ → Type 0) (net : Network L) where
  -- A walk of at most k steps that reads the word first reads a word that is derived, and then goes on from t to e.
  pub record Passed (Derived : List C → Type 0) (t e k : ℕ) (w : List C) : Type 0 where
    pub front : List C
    pub rest : List C
    pub steps : ℕ
    pub derived : Derived front
    pub walk : Walk Takes Names Passes net steps t e rest
    pub fewer : steps ≤ k
    pub parts : w ≡ front ++ rest

  -- what is derived, with something else that follows from it
  as_well : {P Q : List C → Type 0} {t e k : ℕ} {w : List C} → ((u : List C) → P u → Q u) → Passed P t e k w → Passed Q t e k w
  as_well f p = record {
    front = p.front;
    rest = p.rest;
    steps = p.steps;
    derived = f p.front p.derived;
    walk = p.walk;
    fewer = p.fewer;
    parts = p.parts;
  }

  -- one and then another
  and_then : {P Q R : List C → Type 0} {mid t e k : ℕ} {w : List C} → ((u v x : List C) → P u → Q v → x ≡ u ++ v → R x)
      → (p : Passed P mid e k w) → Passed Q t e p.steps p.rest → Passed R t e k w
  and_then f p q = record {
    front = p.front ++ q.front;
    rest = q.rest;
    steps = q.steps;
    derived = f p.front q.front (p.front ++ q.front) p.derived q.derived refl;
    walk = q.walk;
    fewer = omega (arith, p.fewer, q.fewer);
    parts = p.parts ∙ ap (λ (u : List C). p.front ++ u) q.parts ∙ sym (append_assoc p.front q.front q.rest);
  }

  -- what the definitions of derivation take here
  abbrev Reads : Step L → List C → Type 0
  Reads = ReadsLetter Takes Names Passes

  -- an element, elements and alternatives over letters
  abbrev Reading : Element (Step L) → List C → Type 0
  Reading = Derives Reads NoCalls []

  abbrev AllReading : Elements (Step L) → List C → Type 0
  AllReading = DerivesAll Reads NoCalls []

  abbrev OneReading : Alternatives (Step L) → List C → Type 0
  OneReading = DerivesOne Reads NoCalls []

  module _ (e rule : ℕ) (is_end : state_at net e ≡ Some (End rule)) where
    -- a step of such a state, and then the walk from its target
    step_of : {k s t : ℕ} {w : List C} (st : State L) (a : Step L) → state_at net s ≡ Some st → GoesOn st
        → ((u : ℕ) (v : List C) → MovesBy Takes Names Passes (Some st) u v → (u ≡ t) × Reads a v) →
        Walk Takes Names Passes net k s e w → Passed (Reading (atom a)) t e k w
    step_of {t = t} st a is on moves walk =
        let h = onward Takes Names Passes net e rule is_end st is on walk in
        let m = moves h.to h.first h.moves in
        let short = h.count in record {
          front = h.first;
          rest = h.rest;
          steps = h.steps;
          derived = an_atom a h.first m.1;
          walk = subst (λ (q : ℕ). Walk Takes Names Passes net h.steps q e h.rest) m.0 h.walk;
          fewer = omega arith;
          parts = h.parts;
        }

    -- a walk of one step fewer than k, which reads the same
    record Shorter (t k : ℕ) (w : List C) : Type 0 where
      steps : ℕ
      walk : Walk Takes Names Passes net steps t e w
      count : k ≡ steps + 1

    -- an empty edge
    pass : {k s t : ℕ} {w : List C} → state_at net s ≡ Some (Empty t) → Walk Takes Names Passes net k s e w → Shorter t k w
    pass {k} {s} {t} {w} is walk =
        let h = onward Takes Names Passes net e rule is_end (Empty t) is tt walk in
        let same : h.rest ≡ w = sym (h.parts ∙ ap (λ (u : List C). u ++ h.rest) h.moves.1) in
        let moved = subst (λ (q : ℕ). Walk Takes Names Passes net h.steps q e h.rest) h.moves.0 h.walk in
        record { steps = h.steps; walk = subst (Walk Takes Names Passes net h.steps t e) same moved; count = h.count }

    -- a decision
    decide : {k s : ℕ} {w : List C} (targets : List ℕ) → state_at net s ≡ Some (Decision targets)
        → Walk Takes Names Passes net k s e w → (q : ℕ) × Contains targets q × Shorter q k w
    decide {k} {s} {w} targets is walk =
        let h = onward Takes Names Passes net e rule is_end (Decision targets) is tt walk in
        let same : h.rest ≡ w = sym (h.parts ∙ ap (λ (u : List C). u ++ h.rest) h.moves.1) in (
          h.to,
          h.moves.0,
          record {
            steps = h.steps;
            walk = subst (Walk Takes Names Passes net h.steps h.to e) same h.walk;
            count = h.count;
          },
        )

    -- more steps than are needed
    within : {P : List C → Type 0} {t j k : ℕ} {w : List C} → j ≤ k → Passed P t e j w → Passed P t e k w
    within fewer p = record {
      front = p.front;
      rest = p.rest;
      steps = p.steps;
      derived = p.derived;
      walk = p.walk;
      fewer = omega (arith, p.fewer);
      parts = p.parts;
    }

    -- nothing is derived, and the walk is at t
    leave : {P : List C → Type 0} {t k j : ℕ} {w : List C} → P [] → j ≤ k → Walk Takes Names Passes net j t e w → Passed P t e k w
    leave {j = j} {w = w} d fewer walk = record { front = []; rest = w; steps = j; derived = d; walk = walk; fewer = fewer; parts = refl }

    -- From each of the first states of the bodies a walk goes through one of them, to u.
    abbrev Through : Alternatives (Step L) → List ℕ → ℕ → Type 0
    Through xs firsts u = (f k : ℕ) (w : List C) → Contains firsts f → Walk Takes Names Passes net k f e w → Passed (OneReading xs) u e k w

    -- from a loop's decision
    around : (name : Option Label) (sign : Suffix) (xs : Alternatives (Step L)) (firsts : List ℕ) (d exit : ℕ)
        → state_at net d ≡ Some (Decision (with_exit sign.greedy firsts exit)) → Through xs firsts d →
        (most k : ℕ) (w : List C) → k ≤ most → Walk Takes Names Passes net k d e w → Passed (Reading (block name (Star sign) xs)) exit e k w
    around name sign xs firsts d exit is body zero k w fewer walk = let s = decide (with_exit sign.greedy firsts exit) is walk in
        absurd (omega (arith, s.2.count))
    around name sign xs firsts d exit is body (suc most) k w fewer walk =
        let s = decide (with_exit sign.greedy firsts exit) is walk in
        elim (with_exit_cases sign.greedy firsts exit s.0 s.1) [
          | inl same ↦ leave (no_turn name sign xs) (omega (arith, s.2.count))
              (subst (λ (q : ℕ). Walk Takes Names Passes net s.2.steps q e w) same s.2.walk)
          | inr old ↦ (
              let p = body s.0 s.2.steps w old s.2.walk in
              within (omega (arith, s.2.count))
              (and_then {P = OneReading xs} {Q = Reading (block name (Star sign) xs)} {R = Reading (block name (Star sign) xs)}
              (λ u v x du dv parts. a_turn name sign xs u v x du dv parts) p
              (around name sign xs firsts d exit is body most p.steps p.rest (omega (arith, s.2.count, p.fewer)) p.walk)))
        ]

    -- once through a body of `x+`, and then from its decision
    and_around : (name : Option Label) (sign : Suffix) (xs : Alternatives (Step L)) (firsts : List ℕ) (f d exit k : ℕ) (w : List C)
        → state_at net d ≡ Some (Decision (with_exit sign.greedy firsts exit)) →
        Through xs firsts d → Contains firsts f → Walk Takes Names Passes net k f e w
        → Passed (Reading (block name (Plus sign) xs)) exit e k w
    and_around name sign xs firsts f d exit k w is body c walk =
        let p = body f k w c walk in
        and_then {P = OneReading xs} {Q = Reading (block name (Star sign) xs)} {R = Reading (block name (Plus sign) xs)}
        (λ u v x du dv parts. turns name sign xs u v x du dv parts) p
        (around name sign xs firsts d exit is body p.steps p.steps p.rest (omega arith) p.walk)

    -- and then over an empty edge
    pub finish : {P : List C → Type 0} {last t k : ℕ} {w : List C} → state_at net last ≡ Some (Empty t) → Passed P last e k w
        → Passed P t e k w
    finish is p = let s = pass is p.walk in record {
      front = p.front;
      rest = p.rest;
      steps = s.steps;
      derived = p.derived;
      walk = s.walk;
      fewer = omega (arith, p.fewer, s.count);
      parts = p.parts;
    }

    mutual
      -- a walk goes through an element
      pub through : {x : Element (Step L)} {s t n m : ℕ} → Lies net x s t n m → (k : ℕ) (w : List C)
          → Walk Takes Names Passes net k s e w → Passed (Reading x) t e k w
      through (lay.an_edge label s n is) k w walk = step_of (Edge label n) (steps.Edge label) is tt (λ u v h. h) walk
      through (lay.a_call called level s n is) k w walk = step_of (Call called level n) (steps.Call called level) is tt (λ u v h. h) walk
      through (lay.a_predicate number s n is) k w walk = step_of (Predicate number n) (steps.Predicate number) is tt (λ u v h. h) walk
      through (lay.a_level q s n is) k w walk = step_of (Level q n) (steps.Level q) is tt (λ u v h. h) walk
      through (lay.an_action s n is) k w walk = step_of (Action n) steps.Action is tt (λ u v h. h) walk
      through (lay.an_empty s n is) k w walk = step_of (Empty n) steps.Empty is tt (λ u v h. h) walk
      through (lay.one_alternative name x s t n m l) k w walk =
          as_well {P = AllReading x} {Q = Reading (block name Once (only x))} (λ u d. a_block name (only x) u (this x none u d))
          (in_order_through l k w walk)
      through (lay.a_block name xs firsts lasts s n m two is l a) k w walk =
          let next = decide firsts is walk in
          within (omega (arith, next.2.count)) (as_well {P = OneReading xs} {Q = Reading (block name Once xs)}
          (λ u d. a_block name xs u d) (bodies_through l m a next.0 next.2.steps w next.1 next.2.walk))
      through (lay.an_optional name sign xs firsts lasts s n m is l a exit) k w walk =
          let next = decide (with_exit sign.greedy firsts m) is walk in
          elim (with_exit_cases sign.greedy firsts m next.0 next.1) [
            | inl same ↦ (
                let left = pass exit (subst (λ (q : ℕ). Walk Takes Names Passes net next.2.steps q e w) same next.2.walk) in
                leave (left_out name sign xs) (omega (arith, next.2.count, left.count)) left.walk)
            | inr old ↦ within (omega (arith, next.2.count))
                (as_well {P = OneReading xs} {Q = Reading (block name (Optional sign) xs)} (λ u d. taken name sign xs u d)
                (bodies_through l (m + 1) a next.0 next.2.steps w old next.2.walk))
          ]
      through (lay.a_star name sign xs firsts lasts s n m is l a) k w walk =
          around name sign xs firsts s m is (λ f j v c h. bodies_through l s a f j v c h) k k w (omega arith) walk
      through (lay.a_plus_of_one name sign xs first lasts s n m is l a more) k w walk =
          let next = pass is walk in
          within (omega (arith, next.count)) (and_around name sign xs (first ∷ []) first m (m + 1) next.steps w more
          (λ f j v c h. bodies_through l m a f j v c h) (0, omega arith, refl) next.walk)
      through (lay.a_plus name sign xs firsts lasts s n m two is l a more) k w walk =
          let next = decide firsts is walk in
          within (omega (arith, next.2.count)) (and_around name sign xs firsts next.0 m (m + 1) next.2.steps w more
          (λ f j v c h. bodies_through l m a f j v c h) next.1 next.2.walk)

      -- through elements one after another
      pub in_order_through : {xs : Elements (Step L)} {s t n m : ℕ} → LieInOrder net xs s t n m → (k : ℕ) (w : List C)
          → Walk Takes Names Passes net k s e w → Passed (AllReading xs) t e k w
      in_order_through (lay.no_more s n) k w walk = leave nothing (omega arith) walk
      in_order_through (lay.one_more x xs s mid t n j m l ls) k w walk =
          let p = through l k w walk in
          and_then {P = Reading x} {Q = AllReading xs} {R = AllReading (then x xs)}
          (λ u v y du dv parts. one_more x xs u v y du dv parts) p (in_order_through ls p.steps p.rest p.walk)

      -- through one of some bodies that lead to u
      pub bodies_through : {xs : Alternatives (Step L)} {firsts lasts : List ℕ} {n m : ℕ} → LieSideBySide net xs firsts lasts n m
          → (u : ℕ) → AllLeadTo net lasts u → (f k : ℕ) (w : List C) → Contains firsts f →
          Walk Takes Names Passes net k f e w → Passed (OneReading xs) u e k w
      bodies_through (lay.no_other n) u a f k w c walk = absurd (omega (arith, c.1))
      bodies_through (lay.another x xs last n j m firsts lasts l ls) u a f k w c walk = elim (member_cases n firsts f c) [
        | inl same ↦ as_well {P = AllReading x} {Q = OneReading (or x xs)} (λ v d. this x xs v d)
            (finish {P = AllReading x} a.0 (in_order_through l k w (subst (λ (q : ℕ). Walk Takes Names Passes net k q e w) same walk)))
        | inr old ↦ as_well {P = OneReading xs} {Q = OneReading (or x xs)} (λ v d. another x xs v d)
            (bodies_through ls u a.1 f k w old walk)
      ]
