-- No decision that greedy elements make is reluctant.
use Rattle.std.proofs.Common.{◌≡◌, ℕ, ◌+◌, ◌<◌, ◌≤◌, List, Bool, true, false, nat_lt, Some, refl, sym, ◌∙◌, subst, arith}
use Rattle.std.proofs.lemmas.Bool.Decides.{nat_tests}
use native.Mathlib.Decide.{dec_lt}
use Rattle.g4_source.specs.Elements.{Element, Elements, Alternatives}
use Rattle.g4_grammar.specs.declared.step.Step.{Step}
use Rattle.g4_net.specs.declared.network.Network.{Network}
use Rattle.g4_net.specs.declared.network.State.{State}
use Rattle.g4_net.specs.declared.network.State.TheVariants.{Decision, End, Edge, Call, Predicate, Level, Action, Empty}
use Rattle.g4_net.specs.Network.{state_at, start_of, end_of}
use Rattle.g4_layout.specs.Layout.{with_exit, AllLeadTo, Lies, an_edge, a_call, a_predicate, a_level, an_action, an_empty, one_alternative, a_block, an_optional, a_star, a_plus_of_one, a_plus, LieInOrder, no_more, one_more, LieSideBySide, no_other, another, LiesAsRule, of_one, of_several}
use Rattle.g4_layout.proofs.Ends.{at_or_below, at_two}
use Rattle.g4_layout.proofs.Spans.{in_order_spans}
use Rattle.g4_ordered.specs.Network.{is_reluctant}
use Rattle.g4_spelling.specs.Greedy.{IsGreedyElement, AreGreedy, EachIsGreedy}

-- a number that is not below another
not_below : (a b : ℕ) → b ≤ a → nat_lt a b ≡ false
not_below a b up = grind (arith, nat_tests)

module _ {L : Type 0} (net : Network L) where
  -- a decision at the state is not reluctant
  abbrev pub IsEager : ℕ → Type 0
  IsEager p = (targets : List ℕ) → state_at net p ≡ Some (Decision targets) → is_reluctant targets ≡ false

  -- the state is a decision that is not
  decision_eager : (p : ℕ) (targets : List ℕ) → state_at net p ≡ Some (Decision targets) → is_reluctant targets ≡ false → IsEager p
  decision_eager p targets is eager others at = let same : targets ≡ others = cc in
      subst (λ (ts : List ℕ). is_reluctant ts ≡ false) same eager

  -- the state is no decision
  other_eager : (p : ℕ) (s : State L) → state_at net p ≡ Some s → ((targets : List ℕ) → s ≡ Decision targets → ⊥) → IsEager p
  other_eager p s is other targets at = absurd (other targets (let same : Some s ≡ Some (Decision targets) = sym is ∙ at in cc))

  -- an empty edge is none
  pub empty_eager : (p t : ℕ) → state_at net p ≡ Some (Empty t) → IsEager p
  empty_eager p t is = other_eager p (Empty t) is (λ targets e. let n : ⊥ = cc in n)

  -- the first states of bodies rise, and a later exit branch comes last
  rising : {xs : Alternatives (Step L)} {firsts lasts : List ℕ} {n m : ℕ} → LieSideBySide net xs firsts lasts n m
      → (is_reluctant firsts ≡ false) × ((exit : ℕ) → m ≤ exit → is_reluctant (with_exit true firsts exit) ≡ false)
  rising (no_other n) = (refl, λ exit up. refl)
  rising (another x xs last n k m _ _ l (no_other _)) = let up = in_order_spans l in
      (refl, λ exit high. not_below exit n (omega (arith, up.up, high)))
  rising (another x xs last n k m _ _ l (another y ys other _ i _ _ _ h ls)) = let up = in_order_spans l in
      (not_below k n (omega (arith, up.up)), λ exit high. not_below k n (omega (arith, up.up)))

  -- a decision with an exit branch, where the sign is greedy
  exit_eager : {xs : Alternatives (Step L)} {firsts lasts : List ℕ} {n m : ℕ} (p : ℕ) (greedy : Bool) (exit : ℕ) → greedy ≡ true
      → state_at net p ≡ Some (Decision (with_exit greedy firsts exit)) → LieSideBySide net xs firsts lasts n m → m ≤ exit → IsEager p
  exit_eager {firsts = firsts} p greedy exit g is l up =
      decision_eager p (with_exit greedy firsts exit) is
      (subst (λ (b : Bool). is_reluctant (with_exit b firsts exit) ≡ false) (sym g) ((rising l).1 exit up))

  -- the states from n up to m are eager
  abbrev AreEager : ℕ → ℕ → Type 0
  AreEager n m = (p : ℕ) → n ≤ p → p < m → IsEager p

  -- a state alone
  alone_eager : (n : ℕ) → IsEager n → AreEager n (n + 1)
  alone_eager n h p from below = let same : n ≡ p = omega (arith, from, below) in subst IsEager same h

  mutual
    -- the states of a greedy element are eager, if its last is
    pub element_eager : {x : Element (Step L)} {s t n m : ℕ} → Lies net x s t n m → IsGreedyElement x → IsEager t → IsEager s × AreEager n m
    element_eager (an_edge label s n is) g h = (other_eager s (Edge label n) is (λ targets e. let k : ⊥ = cc in k), alone_eager n h)
    element_eager (a_call rule level s n is) g h =
        (other_eager s (Call rule level n) is (λ targets e. let k : ⊥ = cc in k), alone_eager n h)
    element_eager (a_predicate number s n is) g h =
        (other_eager s (Predicate number n) is (λ targets e. let k : ⊥ = cc in k), alone_eager n h)
    element_eager (a_level q s n is) g h = (other_eager s (Level q n) is (λ targets e. let k : ⊥ = cc in k), alone_eager n h)
    element_eager (an_action s n is) g h = (other_eager s (Action n) is (λ targets e. let k : ⊥ = cc in k), alone_eager n h)
    element_eager (an_empty s n is) g h = (empty_eager s n is, alone_eager n h)
    element_eager (one_alternative name x s t n m l) g h = in_order_eager l g.1.0 h
    element_eager (a_block name xs firsts lasts s n m two is l a) g h =
        (decision_eager s firsts is (rising l).0, at_or_below {P = IsEager} m (bodies_eager l m a g.1) h)
    element_eager (an_optional name sign xs firsts lasts s n m is l a exit) g h = (
      exit_eager s sign.greedy m g.0 is l (omega arith),
      at_two {P = IsEager} m (bodies_eager l (m + 1) a g.1) (empty_eager m (m + 1) exit) h,
    )
    element_eager (a_star name sign xs firsts lasts s n m is l a) g h =
        (exit_eager s sign.greedy m g.0 is l (omega arith), at_or_below {P = IsEager} m (bodies_eager l s a g.1) h)
    element_eager (a_plus_of_one name sign xs first lasts s n m is l a again) g h = (
      empty_eager s first is,
      at_two {P = IsEager} m (bodies_eager l m a g.1)
          (exit_eager m sign.greedy (m + 1) g.0 again l (omega arith)) h,
    )
    element_eager (a_plus name sign xs firsts lasts s n m two is l a again) g h = (
      decision_eager s firsts is (rising l).0,
      at_two {P = IsEager} m (bodies_eager l m a g.1)
          (exit_eager m sign.greedy (m + 1) g.0 again l (omega arith)) h,
    )

    -- the same of elements one after another
    pub in_order_eager : {xs : Elements (Step L)} {s t n m : ℕ} → LieInOrder net xs s t n m → AreGreedy xs → IsEager t
        → IsEager s × AreEager n m
    in_order_eager (no_more s n) g h = (h, λ p from below. absurd (omega (arith, from, below)))
    in_order_eager (one_more x xs s mid t n k m l ls) g h =
        let rest = in_order_eager ls g.1 h in
        let front = element_eager l g.0 rest.0 in (
          front.0,
          λ p from below. elim (dec_lt p k) [
            | yes before ↦ front.1 p from before
            | no after ↦ rest.1 p (omega arith) below
          ],
        )

    -- and of bodies that lead on
    pub bodies_eager : {xs : Alternatives (Step L)} {firsts lasts : List ℕ} {n m : ℕ} → LieSideBySide net xs firsts lasts n m
        → (u : ℕ) → AllLeadTo net lasts u → EachIsGreedy xs → AreEager n m
    bodies_eager (no_other n) u a g p from below = absurd (omega (arith, from, below))
    bodies_eager (another x xs last n k m firsts lasts l ls) u a g p from below =
        let own = in_order_eager l g.0 (empty_eager last u a.0) in
        elim (dec_lt p k) [
          | yes before ↦ elim (dec_lt n p) [
            | yes inside ↦ own.1 p (omega arith) before
            | no at_first ↦ (let same : n ≡ p = omega arith in subst IsEager same own.0)
          ]
          | no after ↦ bodies_eager ls u a.1 g.1 p (omega arith) below
        ]

  -- the states of a rule but its end
  pub rule_eager : {rule n m : ℕ} {xs : Alternatives (Step L)} → LiesAsRule net rule xs n m → EachIsGreedy xs
      → IsEager (start_of rule) × AreEager n m
  rule_eager (of_one rule last n m x l leads) g = in_order_eager l g.0 (empty_eager last (end_of rule) leads)
  rule_eager (of_several rule n m xs firsts lasts two is l a) g =
      (decision_eager (start_of rule) firsts is (rising l).0, bodies_eager l (end_of rule) a g)

  -- its end
  pub end_eager : (p rule : ℕ) → state_at net p ≡ Some (End rule) → IsEager p
  end_eager p rule is = other_eager p (End rule) is (λ targets e. let n : ⊥ = cc in n)
