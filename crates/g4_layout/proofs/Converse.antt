-- The premises are needed: a network whose rules have a loop with a body that derives the empty word, or a rule that
-- reaches itself by left calls, has a state that leads above its own stack to itself.
use Rattle.std.proofs.Common.{◌≡◌, ℕ, zero, suc, ◌+◌, inl, inr, List, [], ◌∷◌, ◌++◌, Bool, true, false, Option, Some, refl, sym, subst, arith, Contains, slice_get}
use Rattle.std.proofs.lemmas.Option.{slice_get_within}
use Rattle.g4_source.specs.Elements.{Element, Elements, Alternatives, none}
use Rattle.g4_grammar.specs.declared.step.Step.{Step}
use Rattle.g4_grammar.specs.LeftCalls.{Nullable, an_atom, a_call, a_block, an_optional, a_star, a_plus, AllNullable, nothing, one_more, OneNullable, this, another, IsLeftOf, IsLeftOfAll, IsLeftOfOne, LeftCalls, ReachesLeft, one_call, more_calls, NoLeftCycle}
use Rattle.g4_grammar.specs.Loops.{HasEmptyLoop, OneHasEmptyLoop, SomeHasEmptyLoop, NoEmptyLoop}
use Rattle.g4_grammar.specs.Steps.{CallsRule, ReadsStep}
use Rattle.g4_net.specs.declared.network.Network.{Network}
use Rattle.g4_net.specs.declared.network.State.{State}
use Rattle.g4_net.specs.declared.network.State.TheVariants.{Decision, End, Call, Predicate, Level, Action, Empty}
use Rattle.g4_net.specs.Configurations.{Config}
use Rattle.g4_net.specs.Network.{state_at, start_of, end_of}
use Rattle.g4_net.specs.Leads.{LeadsBy, Leads, LeadsOn, Reaches, here, further, once, again}
use Rattle.g4_net.proofs.Frames.{bottomed}
use Rattle.g4_net.proofs.NeverTheSame.{then_on}
use Rattle.g4_layout.specs.Layout.{with_exit, AllLeadTo, Lies, LieInOrder, LieSideBySide, LiesAsRule, of_one, of_several, IsNetworkOf}
use Rattle.g4_layout.specs.Layout as lay
use Rattle.g4_grammar.proofs.Empty.{one_is_nullable}
use Rattle.g4_layout.proofs.Lifted.{and_on}
use Rattle.g4_layout.proofs.Rules.{rule_laid}
use Rattle.g4_layout.proofs.Spans.{member_cases}

-- a member of a list is one after another item
later : (x : ℕ) (xs : List ℕ) (y : ℕ) → Contains xs y → Contains (x ∷ xs) y
later x xs y h = (suc h.0, omega (arith, h.1), h.2)

-- the exit branch of a decision
exit_edge : (greedy : Bool) (firsts : List ℕ) (exit : ℕ) → Contains (with_exit greedy firsts exit) exit
exit_edge true [] exit = (0, omega arith, refl)
exit_edge true (f ∷ fs) exit = later f (fs ++ exit ∷ []) exit (exit_edge true fs exit)
exit_edge false firsts exit = (0, omega arith, refl)

-- its other edges
body_edge : (greedy : Bool) (firsts : List ℕ) (exit f : ℕ) → Contains firsts f → Contains (with_exit greedy firsts exit) f
body_edge true [] exit f h = absurd (omega (arith, h.1))
body_edge true (g ∷ fs) exit f (zero, below, is) = (0, omega arith, is)
body_edge true (g ∷ fs) exit f (suc k, below, is) = later g (fs ++ exit ∷ []) f (body_edge true fs exit f (k, omega arith, is))
body_edge false firsts exit f h = later exit firsts f h

-- the one member of a list of one
only_member : (x y : ℕ) → Contains (x ∷ []) y → y ≡ x
only_member x y h = elim (member_cases x [] y h) [ inl same ↦ same | inr more ↦ absurd (omega (arith, more.1)) ]

-- no alternative derives nothing
some_nullable : {A : Type 0} {Reads : A → List ℕ → Type 0} {Calls : A → ℕ → Type 0} {rules : List (Alternatives A)}
    {xs : Alternatives A} → OneNullable Reads Calls rules xs → xs ≡ none → ⊥
some_nullable (this x xs d) e = let k : ⊥ = cc in k
some_nullable (another x xs d) e = let k : ⊥ = cc in k

module _ {L : Type 0} (Takes : L → ℕ → Type 0) (rules : List (Alternatives (Step L))) (net : Network L)
    (network : IsNetworkOf rules net) (i : ℕ) where
  -- what steps read
  abbrev Reads : Step L → List ℕ → Type 0
  Reads = ReadsStep Takes

  -- steps and then steps
  reach_then : {c d e : Config} → Reaches net c d → Reaches net d e → Reaches net c e
  reach_then r here = r
  reach_then r (further x e s l) = further x e (reach_then r s) l

  -- the state leads to the other with these return states
  abbrev Goes : List ℕ → ℕ → ℕ → Type 0
  Goes returns p q = Reaches net (bottomed p i returns) (bottomed q i returns)

  -- a step of a state whose edges are known
  step_by : (p : ℕ) (o : Option (State L)) → state_at net p ≡ o → (returns : List ℕ) (d : Config)
      → LeadsBy net o (bottomed p i returns) d → Leads net (bottomed p i returns) d
  step_by p o is returns d l = subst (λ (s : Option (State L)). LeadsBy net s (bottomed p i returns) d) (sym is) l

  -- one step
  one_step : {c d : Config} → Leads net c d → Reaches net c d
  one_step {c} {d} l = further c d here l

  -- an edge of a decision
  decide : (returns : List ℕ) (p q : ℕ) (targets : List ℕ) → state_at net p ≡ Some (Decision targets) → Contains targets q
      → Leads net (bottomed p i returns) (bottomed q i returns)
  decide returns p q targets is h = step_by p (Some (Decision targets)) is returns (bottomed q i returns) (q, h, refl)

  -- an empty edge
  pass : (returns : List ℕ) (p q : ℕ) → state_at net p ≡ Some (Empty q) → Leads net (bottomed p i returns) (bottomed q i returns)
  pass returns p q is = step_by p (Some (Empty q)) is returns (bottomed q i returns) refl

  mutual
    -- leading goes through an element that derives the empty word
    pub through : {x : Element (Step L)} {s t n m : ℕ} → Nullable Reads CallsRule rules x → Lies net x s t n m → (returns : List ℕ)
        → Goes returns s t
    through (an_atom _ reads) (lay.an_edge label s n is) returns = absurd (let e = reads.2 in let k : ⊥ = cc in k)
    through (a_call _ _ _ called at h) (lay.an_edge label s n is) returns = absurd called
    through (an_atom _ reads) (lay.a_predicate k s n is) returns =
        one_step (step_by s (Some (Predicate k n)) is returns (bottomed n i returns) refl)
    through (an_atom _ reads) (lay.a_level q s n is) returns =
        one_step (step_by s (Some (Level q n)) is returns (bottomed n i returns) refl)
    through (a_call _ _ _ called at h) (lay.a_predicate k s n is) returns = absurd called
    through (a_call _ _ _ called at h) (lay.a_level q s n is) returns = absurd called
    through (a_call _ _ _ called at h) (lay.an_action s n is) returns = absurd called
    through (a_call _ _ _ called at h) (lay.an_empty s n is) returns = absurd called
    through (an_atom _ reads) (lay.a_call rule level s n is) returns = absurd reads
    through (an_atom _ reads) (lay.an_action s n is) returns = one_step (step_by s (Some (Action n)) is returns (bottomed n i returns) refl)
    through (an_atom _ reads) (lay.an_empty s n is) returns = one_step (step_by s (Some (Empty n)) is returns (bottomed n i returns) refl)
    through (a_call _ j xs called at h) (lay.a_call rule level s n is) returns =
        let found_at : slice_get rules rule ≡ Some xs = subst (λ (q : ℕ). slice_get rules q ≡ Some xs) called at in
        let r = rule_laid rules net network rule (slice_get_within rules rule xs found_at) in
        let found = r.is in let same : r.alternatives ≡ xs = cc in
        let inside = rule_through h (subst (λ (ys : Alternatives (Step L)). LiesAsRule net rule ys r.from r.upto) same r.lies)
        (n ∷ returns) in
        further (bottomed (end_of rule) i (n ∷ returns)) (bottomed n i returns)
        (reach_then (one_step (step_by s (Some (Call rule level n)) is returns (bottomed (start_of rule) i (n ∷ returns)) refl)) inside)
        (step_by (end_of rule) (Some (End rule)) r.last (n ∷ returns) (bottomed n i returns) refl)
    through (a_block _ _ (this x _ d)) (lay.one_alternative name _ s t n m l) returns = in_order_through d l returns
    through (a_block _ _ (another x _ d)) (lay.one_alternative name _ s t n m l) returns = absurd (some_nullable d refl)
    through (a_block _ _ h) (lay.a_block name xs firsts lasts s n m two is l a) returns =
        let b = body_through h l m a in reach_then (one_step (decide returns s b.0 firsts is b.1)) (b.2 returns)
    through (an_optional _ _ _) (lay.an_optional name sign xs firsts lasts s n m is l a exit) returns =
        further (bottomed m i returns) (bottomed (m + 1) i returns)
        (one_step (decide returns s m (with_exit sign.greedy firsts m) is (exit_edge sign.greedy firsts m)))
        (pass returns m (m + 1) exit)
    through (a_star _ _ _) (lay.a_star name sign xs firsts lasts s n m is l a) returns =
        one_step (decide returns s m (with_exit sign.greedy firsts m) is (exit_edge sign.greedy firsts m))
    through (a_plus _ _ _ h) (lay.a_plus_of_one name sign xs first lasts s n m is l a more) returns =
        let b = body_through h l m a in
        further (bottomed m i returns) (bottomed (m + 1) i returns)
        (reach_then (one_step (pass returns s first is)) (subst (λ (f : ℕ). Goes returns f m) (only_member first b.0 b.1) (b.2 returns)))
        (decide returns m (m + 1) (with_exit sign.greedy (first ∷ []) (m + 1)) more (exit_edge sign.greedy (first ∷ []) (m + 1)))
    through (a_plus _ _ _ h) (lay.a_plus name sign xs firsts lasts s n m two is l a more) returns =
        let b = body_through h l m a in
        further (bottomed m i returns) (bottomed (m + 1) i returns)
        (reach_then (one_step (decide returns s b.0 firsts is b.1)) (b.2 returns))
        (decide returns m (m + 1) (with_exit sign.greedy firsts (m + 1)) more (exit_edge sign.greedy firsts (m + 1)))

    -- through elements one after another
    pub in_order_through : {xs : Elements (Step L)} {s t n m : ℕ} → AllNullable Reads CallsRule rules xs → LieInOrder net xs s t n m
        → (returns : List ℕ) → Goes returns s t
    in_order_through nothing (lay.no_more s n) returns = here
    in_order_through (one_more _ _ d ds) (lay.one_more x xs s mid t n k m l ls) returns =
        reach_then (through d l returns) (in_order_through ds ls returns)

    -- through one of some bodies
    pub body_through : {xs : Alternatives (Step L)} {firsts lasts : List ℕ} {n m : ℕ} → OneNullable Reads CallsRule rules xs
        → LieSideBySide net xs firsts lasts n m → (u : ℕ) → AllLeadTo net lasts u →
        (f : ℕ) × Contains firsts f × ((returns : List ℕ) → Goes returns f u)
    body_through (this _ _ d) (lay.another x xs last n k m firsts lasts l ls) u a = (
      n,
      (0, omega arith, refl),
      λ returns. further (bottomed last i returns) (bottomed u i returns) (in_order_through d l returns)
          (pass returns last u a.0),
    )
    body_through (another _ _ d) (lay.another x xs last n k m firsts lasts l ls) u a = let b = body_through d ls u a.1 in
        (b.0, later n firsts b.0 b.1, b.2)

    -- through a rule
    pub rule_through : {xs : Alternatives (Step L)} {rule n m : ℕ} → OneNullable Reads CallsRule rules xs → LiesAsRule net rule xs n m
        → (returns : List ℕ) → Goes returns (start_of rule) (end_of rule)
    rule_through (this _ _ d) (of_one rule last n m x l leads) returns =
        further (bottomed last i returns) (bottomed (end_of rule) i returns) (in_order_through d l returns)
        (pass returns last (end_of rule) leads)
    rule_through (another _ _ d) (of_one rule last n m x l leads) returns = absurd (some_nullable d refl)
    rule_through (this _ _ d) (of_several rule n m _ _ _ two is (lay.another x xs last _ k _ firsts lasts l ls) a) returns =
        further (bottomed last i returns) (bottomed (end_of rule) i returns)
        (reach_then (one_step (decide returns (start_of rule) n (n ∷ firsts) is (0, omega arith, refl)))
        (in_order_through d l returns)) (pass returns last (end_of rule) a.0)
    rule_through (another _ _ d) (of_several rule n m _ _ _ two is (lay.another x xs last _ k _ firsts lasts l ls) a) returns =
        let b = body_through d ls (end_of rule) a.1 in
        reach_then (one_step (decide returns (start_of rule) b.0 (n ∷ firsts) is (later n firsts b.0 b.1))) (b.2 returns)

  -- the state leads to the rule's start
  abbrev Leaves : List ℕ → ℕ → ℕ → Type 0
  Leaves returns p j = (above : List ℕ) × LeadsOn net (bottomed p i returns) (bottomed (start_of j) i above)

  -- after steps
  calls_after : (returns : List ℕ) (p q j : ℕ) → Goes returns p q → Leaves returns q j → Leaves returns p j
  calls_after returns p q j r c = (c.0, then_on net _ _ _ r c.1)

  mutual
    -- an element's first state leads to what is called before anything is read
    pub first_calls : (j : ℕ) {x : Element (Step L)} {s t n m : ℕ} → Lies net x s t n m → IsLeftOf Reads CallsRule rules x j
        → (returns : List ℕ) → Leaves returns s j
    first_calls j (lay.an_edge label s n is) h returns = absurd h
    first_calls j (lay.a_call rule level s n is) h returns =
        subst (λ (k : ℕ). Leaves returns s k) (sym h) (
          n ∷ returns,
          once (bottomed (start_of rule) i (n ∷ returns))
              (step_by s (Some (Call rule level n)) is returns (bottomed (start_of rule) i (n ∷ returns)) refl),
        )
    first_calls j (lay.a_predicate k s n is) h returns = absurd h
    first_calls j (lay.a_level q s n is) h returns = absurd h
    first_calls j (lay.an_action s n is) h returns = absurd h
    first_calls j (lay.an_empty s n is) h returns = absurd h
    first_calls j (lay.one_alternative name x s t n m l) (inl h) returns = in_order_calls j l h returns
    first_calls j (lay.one_alternative name x s t n m l) (inr h) returns = absurd h
    first_calls j (lay.a_block name xs firsts lasts s n m two is l a) h returns =
        let b = body_calls j l h in calls_after returns s b.0 j (one_step (decide returns s b.0 firsts is b.1)) (b.2 returns)
    first_calls j (lay.an_optional name sign xs firsts lasts s n m is l a exit) h returns =
        let b = body_calls j l h in calls_after returns s b.0 j
        (one_step (decide returns s b.0 (with_exit sign.greedy firsts m) is (body_edge sign.greedy firsts m b.0 b.1))) (b.2 returns)
    first_calls j (lay.a_star name sign xs firsts lasts s n m is l a) h returns =
        let b = body_calls j l h in calls_after returns s b.0 j
        (one_step (decide returns s b.0 (with_exit sign.greedy firsts m) is (body_edge sign.greedy firsts m b.0 b.1))) (b.2 returns)
    first_calls j (lay.a_plus_of_one name sign xs first lasts s n m is l a more) h returns =
        let b = body_calls j l h in calls_after returns s first j (one_step (pass returns s first is))
        (subst (λ (f : ℕ). Leaves returns f j) (only_member first b.0 b.1) (b.2 returns))
    first_calls j (lay.a_plus name sign xs firsts lasts s n m two is l a more) h returns =
        let b = body_calls j l h in calls_after returns s b.0 j (one_step (decide returns s b.0 firsts is b.1)) (b.2 returns)

    -- the same of elements one after another
    pub in_order_calls : (j : ℕ) {xs : Elements (Step L)} {s t n m : ℕ} → LieInOrder net xs s t n m
        → IsLeftOfAll Reads CallsRule rules xs j → (returns : List ℕ) → Leaves returns s j
    in_order_calls j (lay.no_more s n) h returns = absurd h
    in_order_calls j (lay.one_more x xs s mid t n k m l ls) (inl h) returns = first_calls j l h returns
    in_order_calls j (lay.one_more x xs s mid t n k m l ls) (inr h) returns =
        calls_after returns s mid j (through h.0 l returns) (in_order_calls j ls h.1 returns)

    -- and of bodies
    pub body_calls : (j : ℕ) {xs : Alternatives (Step L)} {firsts lasts : List ℕ} {n m : ℕ} → LieSideBySide net xs firsts lasts n m
        → IsLeftOfOne Reads CallsRule rules xs j →
        (f : ℕ) × Contains firsts f × ((returns : List ℕ) → Leaves returns f j)
    body_calls j (lay.no_other n) h = absurd h
    body_calls j (lay.another x xs last n k m firsts lasts l ls) (inl h) = (n, (0, omega arith, refl), in_order_calls j l h)
    body_calls j (lay.another x xs last n k m firsts lasts l ls) (inr h) = let b = body_calls j ls h in (b.0, later n firsts b.0 b.1, b.2)

  -- a rule's start leads to the start of each rule that it calls before anything is read
  rule_calls : (j : ℕ) {xs : Alternatives (Step L)} {rule n m : ℕ} → LiesAsRule net rule xs n m
      → IsLeftOfOne Reads CallsRule rules xs j → (returns : List ℕ) → Leaves returns (start_of rule) j
  rule_calls j (of_one rule last n m x l leads) (inl h) returns = in_order_calls j l h returns
  rule_calls j (of_one rule last n m x l leads) (inr h) returns = absurd h
  rule_calls j (of_several rule n m xs firsts lasts two is l a) h returns =
      let b = body_calls j l h in calls_after returns (start_of rule) b.0 j
      (one_step (decide returns (start_of rule) b.0 firsts is b.1)) (b.2 returns)

  -- one left call
  left_call : (k j : ℕ) → LeftCalls Reads CallsRule rules k j → (returns : List ℕ) → Leaves returns (start_of k) j
  left_call k j (xs, is, h) returns =
      let r = rule_laid rules net network k (slice_get_within rules k xs is) in
      let found = r.is in let same : r.alternatives ≡ xs = cc in
      rule_calls j (subst (λ (ys : Alternatives (Step L)). LiesAsRule net k ys r.from r.upto) same r.lies) h returns

  -- left calls
  pub left_calls : (k j : ℕ) → ReachesLeft Reads CallsRule rules k j → (returns : List ℕ) → Leaves returns (start_of k) j
  left_calls k _ (one_call j l) returns = left_call k j l returns
  left_calls k _ (more_calls g j r l) returns =
      let first = left_calls k g r returns in let next = left_call g j l first.0 in (next.0, and_on first.1 next.1)

  -- a step and then steps
  step_then : {c d e : Config} → Leads net c d → Reaches net d e → LeadsOn net c e
  step_then {d = d} l here = once d l
  step_then l (further x e r m) = again x e (step_then l r) m

  -- a state leads to itself
  abbrev ComesBack : Type 0
  ComesBack = (p : ℕ) × LeadsOn net (bottomed p i []) (bottomed p i [])

  -- from a loop's decision through a body and back
  around : {xs : Alternatives (Step L)} {firsts lasts : List ℕ} {n m : ℕ} (greedy : Bool) (u exit : ℕ)
      → LieSideBySide net xs firsts lasts n m → AllLeadTo net lasts u →
      state_at net u ≡ Some (Decision (with_exit greedy firsts exit)) → OneNullable Reads CallsRule rules xs → ComesBack
  around {firsts = firsts} greedy u exit l a is h =
      let b = body_through h l u a in (
        u,
        step_then
            (decide [] u b.0 (with_exit greedy firsts exit) is (body_edge greedy firsts exit b.0 b.1)) (b.2 []),
      )

  mutual
    -- an element with a loop whose body derives the empty word comes back to a state
    pub loop_back : {x : Element (Step L)} {s t n m : ℕ} → Lies net x s t n m → HasEmptyLoop Reads CallsRule rules x → ComesBack
    loop_back (lay.an_edge label s n is) h = absurd h
    loop_back (lay.a_call rule level s n is) h = absurd h
    loop_back (lay.a_predicate k s n is) h = absurd h
    loop_back (lay.a_level q s n is) h = absurd h
    loop_back (lay.an_action s n is) h = absurd h
    loop_back (lay.an_empty s n is) h = absurd h
    loop_back (lay.one_alternative name x s t n m l) (inl h) = in_order_back l h
    loop_back (lay.one_alternative name x s t n m l) (inr h) = absurd h
    loop_back (lay.a_block name xs firsts lasts s n m two is l a) h = bodies_back l h
    loop_back (lay.an_optional name sign xs firsts lasts s n m is l a exit) h = bodies_back l h
    loop_back (lay.a_star name sign xs firsts lasts s n m is l a) (inl h) =
        around sign.greedy s m l a is (one_is_nullable Reads CallsRule rules h refl)
    loop_back (lay.a_star name sign xs firsts lasts s n m is l a) (inr h) = bodies_back l h
    loop_back (lay.a_plus_of_one name sign xs first lasts s n m is l a more) (inl h) =
        around sign.greedy m (m + 1) l a more (one_is_nullable Reads CallsRule rules h refl)
    loop_back (lay.a_plus_of_one name sign xs first lasts s n m is l a more) (inr h) = bodies_back l h
    loop_back (lay.a_plus name sign xs firsts lasts s n m two is l a more) (inl h) =
        around sign.greedy m (m + 1) l a more (one_is_nullable Reads CallsRule rules h refl)
    loop_back (lay.a_plus name sign xs firsts lasts s n m two is l a more) (inr h) = bodies_back l h

    -- so do elements one after another
    pub in_order_back : {xs : Elements (Step L)} {s t n m : ℕ} → LieInOrder net xs s t n m → OneHasEmptyLoop Reads CallsRule rules xs
        → ComesBack
    in_order_back (lay.no_more s n) h = absurd h
    in_order_back (lay.one_more x xs s mid t n k m l ls) (inl h) = loop_back l h
    in_order_back (lay.one_more x xs s mid t n k m l ls) (inr h) = in_order_back ls h

    -- and bodies
    pub bodies_back : {xs : Alternatives (Step L)} {firsts lasts : List ℕ} {n m : ℕ} → LieSideBySide net xs firsts lasts n m
        → SomeHasEmptyLoop Reads CallsRule rules xs → ComesBack
    bodies_back (lay.no_other n) h = absurd h
    bodies_back (lay.another x xs last n k m firsts lasts l ls) (inl h) = in_order_back l h
    bodies_back (lay.another x xs last n k m firsts lasts l ls) (inr h) = bodies_back ls h

  -- a rule does
  rule_back : {xs : Alternatives (Step L)} {rule n m : ℕ} → LiesAsRule net rule xs n m → SomeHasEmptyLoop Reads CallsRule rules xs
      → ComesBack
  rule_back (of_one rule last n m x l leads) (inl h) = in_order_back l h
  rule_back (of_one rule last n m x l leads) (inr h) = absurd h
  rule_back (of_several rule n m xs firsts lasts two is l a) h = bodies_back l h

  -- a network that never comes back to a state has rules without empty loops and left cycles
  pub only_so : ((p : ℕ) (returns : List ℕ) → LeadsOn net (bottomed p i []) (bottomed p i returns) → ⊥)
      → NoEmptyLoop Reads CallsRule rules × NoLeftCycle Reads CallsRule rules
  only_so never = (
    λ k xs is h. let r = rule_laid rules net network k (slice_get_within rules k xs is) in
        let found = r.is in let same : r.alternatives ≡ xs = cc in
        let back = rule_back (subst (λ (ys : Alternatives (Step L)). LiesAsRule net k ys r.from r.upto) same r.lies) h in
        never back.0 [] back.1,
    λ k r. let back = left_calls k k r [] in never (start_of k) back.0 back.1,
  )
