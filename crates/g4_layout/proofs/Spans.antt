-- Where elements are laid out: their states are in order, and they end at one of these or where they begin.
use Rattle.std.proofs.Common.{◌≡◌, ℕ, zero, suc, ◌+◌, ◌<◌, ◌≤◌, ◌⊎◌, inl, inr, List, ◌∷◌, length, refl, sym, ◌∙◌, arith, Contains}
use Rattle.g4_source.specs.Elements.{Element, Elements, Alternatives, none, or}
use Rattle.g4_source.specs.Full.{IsSome}
use Rattle.g4_grammar.specs.declared.step.Step.{Step}
use Rattle.g4_net.specs.declared.network.Network.{Network}
use Rattle.g4_layout.specs.Layout.{Lies, an_edge, a_call, a_predicate, a_level, an_action, an_empty, one_alternative, a_block, an_optional, a_star, a_plus_of_one, a_plus, LieInOrder, no_more, one_more, LieSideBySide, no_other, another}

-- the states from n up to m are in order, and t is s or one of them
pub record Spans (s t n m : ℕ) : Type 0 where
  pub up : n ≤ m
  pub last : (t ≡ s) ⊎ ((n ≤ t) × (t < m))

-- what ends at the state after the others
ends_after : (s t n m : ℕ) → n ≤ t → t < m → Spans s t n m
ends_after s t n m from below = record { up = omega arith; last = inr (from, below) }

-- one after another
join_spans : {s mid t n k m : ℕ} → Spans s mid n k → Spans mid t k m → Spans s t n m
join_spans a b = record {
  up = omega arith;
  last = elim b.last [
    | inl same ↦ elim a.last [ inl first ↦ inl (same ∙ first) | inr h ↦ inr (omega arith, omega arith) ]
    | inr h ↦ inr (omega arith, omega arith)
  ];
}

-- a member of a list is its head or one of its tail
pub member_cases : (x : ℕ) (xs : List ℕ) (y : ℕ) → Contains (x ∷ xs) y → (y ≡ x) ⊎ Contains xs y
member_cases x xs y (zero, below, is) = inl (sym is)
member_cases x xs y (suc k, below, is) = inr (k, omega arith, is)

module _ {L : Type 0} where
  mutual
    -- an element
    pub lies_spans : {net : Network L} {x : Element (Step L)} {s t n m : ℕ} → Lies net x s t n m → Spans s t n m
    lies_spans (an_edge label s n is) = ends_after s n n (n + 1) (omega arith) (omega arith)
    lies_spans (a_call rule level s n is) = ends_after s n n (n + 1) (omega arith) (omega arith)
    lies_spans (a_predicate k s n is) = ends_after s n n (n + 1) (omega arith) (omega arith)
    lies_spans (a_level q s n is) = ends_after s n n (n + 1) (omega arith) (omega arith)
    lies_spans (an_action s n is) = ends_after s n n (n + 1) (omega arith) (omega arith)
    lies_spans (an_empty s n is) = ends_after s n n (n + 1) (omega arith) (omega arith)
    lies_spans (one_alternative name x s t n m l) = in_order_spans l
    lies_spans (a_block name xs firsts lasts s n m two is l a) = let up = side_by_side_up l in ends_after s m n (m + 1) up (omega arith)
    lies_spans (an_optional name sign xs firsts lasts s n m is l a exit) = let up = side_by_side_up l in
        ends_after s (m + 1) n (m + 2) (omega arith) (omega arith)
    lies_spans (a_star name sign xs firsts lasts s n m is l a) = let up = side_by_side_up l in ends_after s m n (m + 1) up (omega arith)
    lies_spans (a_plus_of_one name sign xs first lasts s n m is l a again) = let up = side_by_side_up l in
        ends_after s (m + 1) n (m + 2) (omega arith) (omega arith)
    lies_spans (a_plus name sign xs firsts lasts s n m two is l a again) = let up = side_by_side_up l in
        ends_after s (m + 1) n (m + 2) (omega arith) (omega arith)

    -- elements one after another
    pub in_order_spans : {net : Network L} {xs : Elements (Step L)} {s t n m : ℕ} → LieInOrder net xs s t n m → Spans s t n m
    in_order_spans (no_more s n) = record { up = omega arith; last = inl refl }
    in_order_spans (one_more x xs s mid t n k m l ls) = join_spans (lies_spans l) (in_order_spans ls)

    -- alternatives side by side
    pub side_by_side_up : {net : Network L} {xs : Alternatives (Step L)} {firsts lasts : List ℕ} {n m : ℕ}
        → LieSideBySide net xs firsts lasts n m → n ≤ m
    side_by_side_up (no_other n) = omega arith
    side_by_side_up (another x xs last n k m firsts lasts l ls) = let a = in_order_spans l in let b = side_by_side_up ls in omega arith

  -- each first state is one of the bodies' states
  pub firsts_between : {net : Network L} {xs : Alternatives (Step L)} {firsts lasts : List ℕ} {n m : ℕ}
      → LieSideBySide net xs firsts lasts n m → (f : ℕ) → Contains firsts f → (n ≤ f) × (f < m)
  firsts_between (no_other n) f h = absurd (omega (arith, h.1))
  firsts_between (another x xs last n k m firsts lasts l ls) f h =
      let a = in_order_spans l in let up = side_by_side_up ls in
      elim (member_cases n firsts f h) [
        | inl same ↦ (omega arith, omega arith)
        | inr more ↦ (let b = firsts_between ls f more in (omega arith, omega arith))
      ]

  -- where there is an alternative there is a first state
  pub some_first : {net : Network L} {xs : Alternatives (Step L)} {firsts lasts : List ℕ} {n m : ℕ}
      → LieSideBySide net xs firsts lasts n m → IsSome xs → 1 ≤ length firsts
  some_first (no_other n) some = absurd some
  some_first (another x xs last n k m firsts lasts l ls) some = omega arith

  -- where there is no alternative there is no first state
  no_firsts : {net : Network L} {firsts lasts : List ℕ} {n m : ℕ} → LieSideBySide net none firsts lasts n m → length (0 ∷ firsts) ≡ 1
  no_firsts (no_other n) = refl

  -- one alternative has one first state
  pub one_first : {net : Network L} {x : Elements (Step L)} {firsts lasts : List ℕ} {n m : ℕ}
      → LieSideBySide net (or x none) firsts lasts n m → length firsts ≡ 1
  one_first (another x xs last n k m firsts lasts l ls) = no_firsts ls
