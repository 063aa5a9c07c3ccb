-- Where an element derives a word, a walk from where it begins to where it ends reads the word.
use Rattle.std.proofs.Common.{◌≡◌, ℕ, zero, suc, ◌+◌, inl, inr, List, [], ◌∷◌, ◌++◌, Bool, true, false, Option, Some, refl, subst, arith, Contains}
use Rattle.g4_source.specs.declared.name.Label.{Label}
use Rattle.g4_source.specs.declared.element.Suffix.{Suffix}
use Rattle.g4_source.specs.declared.element.Repeat.TheVariants.{Star}
use Rattle.g4_source.specs.Elements.{Element, block, Elements, Alternatives, none}
use Rattle.g4_grammar.specs.declared.step.Step.{Step}
use Rattle.g4_grammar.specs.Derives.{NoCalls, Derives, an_atom, a_call, a_block, left_out, taken, no_turn, a_turn, turns, DerivesAll, nothing, one_more, DerivesOne, this, another}
use Rattle.g4_net.specs.declared.network.Network.{Network}
use Rattle.g4_net.specs.declared.network.State.TheVariants.{Decision, Edge, Call, Predicate, Level, Action, Empty}
use Rattle.g4_net.specs.Network.{state_at}
use Rattle.g4_layout.specs.Layout.{with_exit, AllLeadTo, Lies, LieInOrder, LieSideBySide}
use Rattle.g4_layout.specs.Layout as lay
use Rattle.g4_layout.proofs.Spans.{member_cases}
use Rattle.g4_derivation.specs.Walks.{ReadsLetter, stays, WalksTo}
use Rattle.g4_derivation.proofs.Joining.{and_on, one_step, decide, then_pass}

-- a member of a list is one after another item
later : (x : ℕ) (xs : List ℕ) (y : ℕ) → Contains xs y → Contains (x ∷ xs) y
later x xs y h = (suc h.0, omega (arith, h.1), h.2)

-- the exit branch of a decision
pub exit_edge : (greedy : Bool) (firsts : List ℕ) (exit : ℕ) → Contains (with_exit greedy firsts exit) exit
exit_edge true [] exit = (0, omega arith, refl)
exit_edge true (f ∷ fs) exit = later f (fs ++ exit ∷ []) exit (exit_edge true fs exit)
exit_edge false firsts exit = (0, omega arith, refl)

-- its other edges
body_edge : (greedy : Bool) (firsts : List ℕ) (exit f : ℕ) → Contains firsts f → Contains (with_exit greedy firsts exit) f
body_edge true [] exit f h = absurd (omega (arith, h.1))
body_edge true (g ∷ fs) exit f (zero, below, is) = (0, omega arith, is)
body_edge true (g ∷ fs) exit f (suc k, below, is) = later g (fs ++ exit ∷ []) f (body_edge true fs exit f (k, omega arith, is))
body_edge false firsts exit f h = later exit firsts f h

-- the one member of a list of one
only_member : (x y : ℕ) → Contains (x ∷ []) y → y ≡ x
only_member x y h = elim (member_cases x [] y h) [ inl same ↦ same | inr more ↦ absurd (omega (arith, more.1)) ]

module _ {L C : Type 0} (Takes : L → C → Type 0) (Names : ℕ → C → Type 0) (Passes : ℕ → Type 0) (net : Network L) where
  -- a walk from one state to another
  abbrev Goes : ℕ → ℕ → List C → Type 0
  Goes = WalksTo Takes Names Passes net

  -- what steps read over letters
  abbrev Reads : Step L → List C → Type 0
  Reads = ReadsLetter Takes Names Passes

  -- no alternative derives nothing
  some_alternative : {xs : Alternatives (Step L)} {w : List C} → DerivesOne Reads NoCalls [] xs w → xs ≡ none → ⊥
  some_alternative (this x xs w d) e = let k : ⊥ = cc in k
  some_alternative (another x xs w d) e = let k : ⊥ = cc in k

  mutual
    -- through an element
    pub along : {x : Element (Step L)} {s t n m : ℕ} {w : List C} → Derives Reads NoCalls [] x w → Lies net x s t n m → Goes s t w
    along (a_call a called xs w is at d) l = absurd is
    along (an_atom _ w reads) (lay.an_edge label s n is) = one_step Takes Names Passes net (Some (Edge label n)) is (refl, reads)
    along (an_atom _ w reads) (lay.a_call called level s n is) =
        one_step Takes Names Passes net (Some (Call called level n)) is (refl, reads)
    along (an_atom _ w reads) (lay.a_predicate number s n is) = one_step Takes Names Passes net (Some (Predicate number n)) is (refl, reads)
    along (an_atom _ w reads) (lay.a_level q s n is) = one_step Takes Names Passes net (Some (Level q n)) is (refl, reads)
    along (an_atom _ w reads) (lay.an_action s n is) = one_step Takes Names Passes net (Some (Action n)) is (refl, reads)
    along (an_atom _ w reads) (lay.an_empty s n is) = one_step Takes Names Passes net (Some (Empty n)) is (refl, reads)
    along (a_block _ _ w (this x _ _ d)) (lay.one_alternative name _ s t n m l) = in_order_along d l
    along (a_block _ _ w (another x _ _ d)) (lay.one_alternative name _ s t n m l) = absurd (some_alternative d refl)
    along (a_block _ _ w d) (lay.a_block name xs firsts lasts s n m two is l a) = let b = body_along d l m a in
        decide Takes Names Passes net firsts is b.1 b.2
    along (left_out _ _ _) (lay.an_optional name sign xs firsts lasts s n m is l a exit) =
        then_pass Takes Names Passes net (one_step Takes Names Passes net (Some (Decision (with_exit sign.greedy firsts m))) is
        (exit_edge sign.greedy firsts m, refl)) exit
    along (taken _ _ _ w d) (lay.an_optional name sign xs firsts lasts s n m is l a exit) =
        let b = body_along d l (m + 1) a in decide Takes Names Passes net (with_exit sign.greedy firsts m) is
        (body_edge sign.greedy firsts m b.0 b.1) b.2
    along (no_turn _ _ _) (lay.a_star name sign xs firsts lasts s n m is l a) =
        one_step Takes Names Passes net (Some (Decision (with_exit sign.greedy firsts m))) is (exit_edge sign.greedy firsts m, refl)
    along (a_turn _ _ _ u v w d more parts) (lay.a_star name sign xs firsts lasts s n m is l a) =
        let b = body_along d l s a in
        decide Takes Names Passes net (with_exit sign.greedy firsts m) is (body_edge sign.greedy firsts m b.0 b.1)
        (and_on Takes Names Passes net b.2 (around_along more l s m a is) parts)
    along (turns _ _ _ u v w d more parts) (lay.a_plus_of_one name sign xs first lasts s n m is l a again) =
        let b = body_along d l m a in
        and_on Takes Names Passes net (one_step Takes Names Passes net (Some (Empty first)) is (refl, refl))
        (and_on Takes Names Passes net (subst (λ (f : ℕ). Goes f m u) (only_member first b.0 b.1) b.2)
        (around_along more l m (m + 1) a again) parts) refl
    along (turns _ _ _ u v w d more parts) (lay.a_plus name sign xs firsts lasts s n m two is l a again) =
        let b = body_along d l m a in decide Takes Names Passes net firsts is b.1
        (and_on Takes Names Passes net b.2 (around_along more l m (m + 1) a again) parts)

    -- from a loop's decision to its exit branch state
    around_along : {name : Option Label} {sign : Suffix} {xs : Alternatives (Step L)} {w : List C} {firsts lasts : List ℕ} {n m : ℕ}
        → Derives Reads NoCalls [] (block name (Star sign) xs) w →
        LieSideBySide net xs firsts lasts n m → (d exit : ℕ) → AllLeadTo net lasts d
        → state_at net d ≡ Some (Decision (with_exit sign.greedy firsts exit)) → Goes d exit w
    around_along {firsts = firsts} (no_turn _ sign _) l d exit a is =
        one_step Takes Names Passes net (Some (Decision (with_exit sign.greedy firsts exit))) is (exit_edge sign.greedy firsts exit, refl)
    around_along {firsts = firsts} (a_turn _ sign _ u v w one more parts) l d exit a is =
        let b = body_along one l d a in
        decide Takes Names Passes net (with_exit sign.greedy firsts exit) is (body_edge sign.greedy firsts exit b.0 b.1)
        (and_on Takes Names Passes net b.2 (around_along more l d exit a is) parts)

    -- through elements one after another
    pub in_order_along : {xs : Elements (Step L)} {s t n m : ℕ} {w : List C} → DerivesAll Reads NoCalls [] xs w
        → LieInOrder net xs s t n m → Goes s t w
    in_order_along nothing (lay.no_more s n) = (0, stays s)
    in_order_along (one_more _ _ u v w d ds parts) (lay.one_more x xs s mid t n k m l ls) =
        and_on Takes Names Passes net (along d l) (in_order_along ds ls) parts

    -- through one of some bodies that lead to t
    pub body_along : {xs : Alternatives (Step L)} {firsts lasts : List ℕ} {n m : ℕ} {w : List C} → DerivesOne Reads NoCalls [] xs w
        → LieSideBySide net xs firsts lasts n m → (t : ℕ) → AllLeadTo net lasts t →
        (f : ℕ) × Contains firsts f × Goes f t w
    body_along (this _ _ w d) (lay.another x xs last n k m firsts lasts l ls) t a =
        (n, (0, omega arith, refl), then_pass Takes Names Passes net (in_order_along d l) a.0)
    body_along (another _ _ w d) (lay.another x xs last n k m firsts lasts l ls) t a = let b = body_along d ls t a.1 in
        (b.0, later n firsts b.0 b.1, b.2)
