-- Nothing endless leads on from the states of elements, where no loop has a body that derives the empty word and nothing
-- endless leads on from the rules that they call.
use Rattle.std.proofs.Common.{◌≡◌, ℕ, ◌+◌, ◌<◌, ◌≤◌, ◌⊎◌, inl, inr, List, [], ◌∷◌, Some, refl, sym, subst, arith, Contains, slice_get}
use native.Mathlib.Decide.{dec_lt}
use Rattle.g4_source.specs.Elements.{Element, Elements, Alternatives, none, or}
use Rattle.g4_grammar.specs.declared.step.Step.{Step}
use Rattle.g4_grammar.specs.declared.step.Step.TheVariants as steps
use Rattle.g4_grammar.specs.Steps.{CallsRule, ReadsStep}
use Rattle.g4_grammar.specs.Loops.{IsEmptyBody, HasEmptyLoop, OneHasEmptyLoop, SomeHasEmptyLoop}
use Rattle.g4_grammar.specs.LeftCalls.{Nullable, an_atom, a_call, a_block, an_optional, a_star, AllNullable, nothing, one_more, OneNullable, this, another, IsLeftOf, IsLeftOfAll, IsLeftOfOne, HasCall, OneHasCall, SomeHasCall}
use Rattle.g4_net.specs.declared.network.Network.{Network}
use Rattle.g4_net.specs.declared.network.State.TheVariants.{Edge, Predicate, Level, Action, Empty}
use Rattle.g4_net.specs.Network.{start_of}
use Rattle.g4_layout.specs.Layout.{AllLeadTo, Lies, LieInOrder, LieSideBySide}
use Rattle.g4_layout.specs.Layout as lay
use Rattle.g4_layout.proofs.Spans.{member_cases}
use Rattle.g4_layout.proofs.Ends.{Ends, EndsAt, ends_by, ends_empty, ends_decision, ends_exit, ends_call, at_or_below, at_two}
use Rattle.g4_grammar.proofs.Empty.{one_derives_nothing, all_left_is_call, one_left_is_call}

module _ {L : Type 0} (Takes : L → ℕ → Type 0) (net : Network L) (rules : List (Alternatives (Step L))) (i : ℕ) where
  -- what the definitions of derivation take here
  abbrev Reads : Step L → List ℕ → Type 0
  Reads = ReadsStep Takes

  abbrev Calls : Step L → ℕ → Type 0
  Calls = CallsRule

  -- a call of the rule ends, if its return does where the rule derives the empty word
  abbrev pub CallEnds : ℕ → Type 0
  CallEnds j = (returns : List ℕ) (back : ℕ) → ((xs : Alternatives (Step L)) → slice_get rules j ≡ Some xs
      → OneNullable Reads Calls rules xs → EndsAt net i returns back) → EndsAt net i (back ∷ returns) (start_of j)

  -- the body of a loop does not derive the empty word
  no_empty_body : {xs : Alternatives (Step L)} {Q : Type 0}
      → (IsEmptyBody Reads Calls rules xs ⊎ SomeHasEmptyLoop Reads Calls rules xs → ⊥) → OneNullable Reads Calls rules xs → Q
  no_empty_body loops h = absurd (loops (inl (one_derives_nothing Reads Calls rules h)))

  mutual
    -- an element's first state ends, if its last does where the element derives the empty word
    pub first_ends : {x : Element (Step L)} {s t n m : ℕ} → Lies net x s t n m → (HasEmptyLoop Reads Calls rules x → ⊥)
        → ((j : ℕ) → IsLeftOf Reads Calls rules x j → CallEnds j) →
        (returns : List ℕ) → (Nullable Reads Calls rules x → EndsAt net i returns t) → EndsAt net i returns s
    first_ends (lay.an_edge label s n is) loops calls returns h = ends_by net i returns s (Some (Edge label n)) is (λ d l. absurd l)
    first_ends (lay.a_call rule level s n is) loops calls returns h =
        ends_call net i returns s rule level n is (calls rule refl returns n
        (λ xs at null. h (a_call (steps.Call rule level) rule xs refl at null)))
    first_ends (lay.a_predicate k s n is) loops calls returns h =
        ends_by net i returns s (Some (Predicate k n)) is (λ d l. subst (Ends net) (sym l) (h (an_atom (steps.Predicate k) refl)))
    first_ends (lay.a_level q s n is) loops calls returns h =
        ends_by net i returns s (Some (Level q n)) is (λ d l. subst (Ends net) (sym l) (h (an_atom (steps.Level q) refl)))
    first_ends (lay.an_action s n is) loops calls returns h =
        ends_by net i returns s (Some (Action n)) is (λ d l. subst (Ends net) (sym l) (h (an_atom steps.Action refl)))
    first_ends (lay.an_empty s n is) loops calls returns h =
        ends_by net i returns s (Some (Empty n)) is (λ d l. subst (Ends net) (sym l) (h (an_atom steps.Empty refl)))
    first_ends (lay.one_alternative name x s t n m l) loops calls returns h =
        in_order_ends l (λ e. loops (inl e)) (λ j c. calls j (inl c)) returns (λ d. h (a_block name (or x none) (this x none d)))
    first_ends (lay.a_block name xs firsts lasts s n m two is l a) loops calls returns h =
        ends_decision net i returns s firsts is (bodies_end l m a loops calls returns (λ d. h (a_block name xs d)))
    first_ends (lay.an_optional name sign xs firsts lasts s n m is l a exit) loops calls returns h =
        let after = h (an_optional name sign xs) in
        ends_exit net i returns s sign.greedy firsts m is (bodies_end l (m + 1) a loops calls returns (λ d. after))
        (ends_empty net i returns m (m + 1) exit after)
    first_ends (lay.a_star name sign xs firsts lasts s n m is l a) loops calls returns h =
        ends_exit net i returns s sign.greedy firsts m is (bodies_end l s a (λ e. loops (inr e)) calls returns (no_empty_body loops))
        (h (a_star name sign xs))
    first_ends (lay.a_plus_of_one name sign xs first lasts s n m is l a more) loops calls returns h =
        ends_empty net i returns s first is (bodies_end l m a (λ e. loops (inr e)) calls returns (no_empty_body loops) first
        (0, omega arith, refl))
    first_ends (lay.a_plus name sign xs firsts lasts s n m two is l a more) loops calls returns h =
        ends_decision net i returns s firsts is (bodies_end l m a (λ e. loops (inr e)) calls returns (no_empty_body loops))

    -- the same of elements one after another
    pub in_order_ends : {xs : Elements (Step L)} {s t n m : ℕ} → LieInOrder net xs s t n m
        → (OneHasEmptyLoop Reads Calls rules xs → ⊥) → ((j : ℕ) → IsLeftOfAll Reads Calls rules xs j → CallEnds j) →
        (returns : List ℕ) → (AllNullable Reads Calls rules xs → EndsAt net i returns t) → EndsAt net i returns s
    in_order_ends (lay.no_more s n) loops calls returns h = h nothing
    in_order_ends (lay.one_more x xs s mid t n k m l ls) loops calls returns h =
        first_ends l (λ e. loops (inl e)) (λ j c. calls j (inl c)) returns
        (λ d. in_order_ends ls (λ e. loops (inr e)) (λ j c. calls j (inr (d, c))) returns (λ ds. h (one_more x xs d ds)))

    -- The first states of bodies that lead to u end, if u does where one of them derives the empty word.
    pub bodies_end : {xs : Alternatives (Step L)} {firsts lasts : List ℕ} {n m : ℕ} → LieSideBySide net xs firsts lasts n m → (u : ℕ)
        → AllLeadTo net lasts u →
        (SomeHasEmptyLoop Reads Calls rules xs → ⊥) → ((j : ℕ) → IsLeftOfOne Reads Calls rules xs j → CallEnds j) →
        (returns : List ℕ) → (OneNullable Reads Calls rules xs → EndsAt net i returns u) → (f : ℕ) → Contains firsts f
        → EndsAt net i returns f
    bodies_end (lay.no_other n) u a loops calls returns h f c = absurd (omega (arith, c.1))
    bodies_end (lay.another x xs last n k m firsts lasts l ls) u a loops calls returns h f c = elim (member_cases n firsts f c) [
      | inl same ↦ subst (EndsAt net i returns) (sym same)
          (in_order_ends l (λ e. loops (inl e)) (λ j d. calls j (inl d)) returns
          (λ d. ends_empty net i returns last u a.0 (h (this x xs d))))
      | inr old ↦ bodies_end ls u a.1 (λ e. loops (inr e)) (λ j d. calls j (inr d)) returns (λ d. h (another x xs d)) f old
    ]

  -- the first states of a loop's bodies, none of which derives the empty word
  pub loop_ends : {xs : Alternatives (Step L)} {firsts lasts : List ℕ} {n m : ℕ} → LieSideBySide net xs firsts lasts n m → (u : ℕ)
      → AllLeadTo net lasts u →
      (IsEmptyBody Reads Calls rules xs ⊎ SomeHasEmptyLoop Reads Calls rules xs → ⊥)
      → ((j : ℕ) → IsLeftOfOne Reads Calls rules xs j → CallEnds j) →
      (returns : List ℕ) (f : ℕ) → Contains firsts f → EndsAt net i returns f
  loop_ends l u a loops calls returns = bodies_end l u a (λ e. loops (inr e)) calls returns (no_empty_body loops)

  mutual
    -- all states of an element end if its last does
    pub within_ends : {x : Element (Step L)} {s t n m : ℕ} → Lies net x s t n m → (HasEmptyLoop Reads Calls rules x → ⊥)
        → ((j : ℕ) → HasCall Calls x j → CallEnds j) →
        (returns : List ℕ) → EndsAt net i returns t → (p : ℕ) → n ≤ p → p < m → EndsAt net i returns p
    within_ends (lay.an_edge label s n is) loops calls returns h p from below = let same : n ≡ p = omega arith in
        subst (EndsAt net i returns) same h
    within_ends (lay.a_call rule level s n is) loops calls returns h p from below = let same : n ≡ p = omega arith in
        subst (EndsAt net i returns) same h
    within_ends (lay.a_predicate k s n is) loops calls returns h p from below = let same : n ≡ p = omega arith in
        subst (EndsAt net i returns) same h
    within_ends (lay.a_level r s n is) loops calls returns h p from below = let same : n ≡ p = omega arith in
        subst (EndsAt net i returns) same h
    within_ends (lay.an_action s n is) loops calls returns h p from below = let same : n ≡ p = omega arith in
        subst (EndsAt net i returns) same h
    within_ends (lay.an_empty s n is) loops calls returns h p from below = let same : n ≡ p = omega arith in
        subst (EndsAt net i returns) same h
    within_ends (lay.one_alternative name x s t n m l) loops calls returns h p from below =
        within_in_order_ends l (λ e. loops (inl e)) (λ j c. calls j (inl c)) returns h p from below
    within_ends (lay.a_block name xs firsts lasts s n m two is l a) loops calls returns h p from below =
        at_or_below m (λ q q_from q_below. within_bodies_end l m a loops calls returns h q q_from q_below) h p from below
    within_ends (lay.an_optional name sign xs firsts lasts s n m is l a exit) loops calls returns h p from below =
        at_two m (λ q q_from q_below. within_bodies_end l (m + 1) a loops calls returns h q q_from q_below)
        (ends_empty net i returns m (m + 1) exit h) h p from below
    within_ends (lay.a_star name sign xs firsts lasts s n m is l a) loops calls returns h p from below =
        let s_ends = ends_exit net i returns s sign.greedy firsts m is
        (loop_ends l s a loops (λ j c. calls j (one_left_is_call Reads Calls rules xs j c)) returns) h in
        at_or_below m (λ q q_from q_below. within_bodies_end l s a (λ e. loops (inr e)) calls returns s_ends q q_from q_below) h p
        from below
    within_ends (lay.a_plus_of_one name sign xs first lasts s n m is l a more) loops calls returns h p from below =
        let m_ends = ends_exit net i returns m sign.greedy (first ∷ []) (m + 1) more
        (loop_ends l m a loops (λ j c. calls j (one_left_is_call Reads Calls rules xs j c)) returns) h in
        at_two m (λ q q_from q_below. within_bodies_end l m a (λ e. loops (inr e)) calls returns m_ends q q_from q_below) m_ends h p
        from below
    within_ends (lay.a_plus name sign xs firsts lasts s n m two is l a more) loops calls returns h p from below =
        let m_ends = ends_exit net i returns m sign.greedy firsts (m + 1) more
        (loop_ends l m a loops (λ j c. calls j (one_left_is_call Reads Calls rules xs j c)) returns) h in
        at_two m (λ q q_from q_below. within_bodies_end l m a (λ e. loops (inr e)) calls returns m_ends q q_from q_below) m_ends h p
        from below

    -- the same of elements one after another
    pub within_in_order_ends : {xs : Elements (Step L)} {s t n m : ℕ} → LieInOrder net xs s t n m
        → (OneHasEmptyLoop Reads Calls rules xs → ⊥) → ((j : ℕ) → OneHasCall Calls xs j → CallEnds j) →
        (returns : List ℕ) → EndsAt net i returns t → (p : ℕ) → n ≤ p → p < m → EndsAt net i returns p
    within_in_order_ends (lay.no_more s n) loops calls returns h p from below = absurd (omega arith)
    within_in_order_ends (lay.one_more x xs s mid t n k m l ls) loops calls returns h p from below = elim (dec_lt p k) [
      | yes before ↦ within_ends l (λ e. loops (inl e)) (λ j c. calls j (inl c)) returns
          (in_order_ends ls (λ e. loops (inr e)) (λ j c. calls j (inr (all_left_is_call Reads Calls rules xs j c))) returns (λ d. h))
          p from before
      | no after ↦ within_in_order_ends ls (λ e. loops (inr e)) (λ j c. calls j (inr c)) returns h p (omega arith) below
    ]

    -- all states of bodies that lead to u end if u does
    pub within_bodies_end : {xs : Alternatives (Step L)} {firsts lasts : List ℕ} {n m : ℕ} → LieSideBySide net xs firsts lasts n m
        → (u : ℕ) → AllLeadTo net lasts u →
        (SomeHasEmptyLoop Reads Calls rules xs → ⊥) → ((j : ℕ) → SomeHasCall Calls xs j → CallEnds j) →
        (returns : List ℕ) → EndsAt net i returns u → (p : ℕ) → n ≤ p → p < m → EndsAt net i returns p
    within_bodies_end (lay.no_other n) u a loops calls returns h p from below = absurd (omega arith)
    within_bodies_end (lay.another x xs last n k m firsts lasts l ls) u a loops calls returns h p from below = elim (dec_lt p k) [
      | yes before ↦ (let last_ends = ends_empty net i returns last u a.0 h in elim (dec_lt n p) [
        | yes inside ↦ within_in_order_ends l (λ e. loops (inl e)) (λ j c. calls j (inl c)) returns last_ends p (omega arith) before
        | no at_first ↦ (let same : n ≡ p = omega arith in subst (EndsAt net i returns) same
            (in_order_ends l (λ e. loops (inl e)) (λ j c. calls j (inl (all_left_is_call Reads Calls rules x j c))) returns
            (λ d. last_ends)))
      ])
      | no after ↦ within_bodies_end ls u a.1 (λ e. loops (inr e)) (λ j c. calls j (inr c)) returns h p (omega arith) below
    ]
