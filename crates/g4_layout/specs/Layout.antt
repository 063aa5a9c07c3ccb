-- How elements are laid out in a network over any labels: the table of states and edges, by cases. States are numbered as they
-- are made.
use Rattle.std.specs.Prelude.{◌≡◌, ◌≤◌, ℕ, ◌+◌, ◌*◌, List, [], ◌∷◌, ◌++◌, length, Option, Bool, true, false, Some}
use Rattle.g4_source.specs.declared.name.Label.{Label}
use Rattle.g4_source.specs.declared.element.Suffix.{Suffix}
use Rattle.g4_source.specs.declared.element.Repeat.TheVariants.{Once, Optional, Star, Plus}
use Rattle.g4_source.specs.Elements.{Element, atom, block, Elements, empty, then, Alternatives, none, or, only}
use Rattle.g4_grammar.specs.declared.step.Step.{Step}
use Rattle.g4_grammar.specs.declared.step.Step.TheVariants as steps
use Rattle.g4_net.specs.declared.network.Network.{Network}
use Rattle.g4_net.specs.declared.network.State.TheVariants.{Decision, End, Edge, Call, Predicate, Level, Action, Empty}
use Rattle.g4_net.specs.Network.{state_at, start_of, end_of}

-- the edges of a decision: the exit branch last where it is greedy, else first
abbrev pub with_exit : Bool → List ℕ → ℕ → List ℕ
with_exit true firsts exit = firsts ++ exit ∷ []
with_exit false firsts exit = exit ∷ firsts

-- each of these states has an empty edge to t
abbrev pub AllLeadTo : {L : Type 0} → Network L → List ℕ → ℕ → Type 0
AllLeadTo net [] t = Unit {0}
AllLeadTo net (b ∷ bs) t = (state_at net b ≡ Some (Empty t)) × AllLeadTo net bs t

mutual
  -- The element is laid out from state s to state t. Its states other than s are those from n up to m, m left out.
  pub data Lies {L : Type 0} (net : Network L) : Element (Step L) → ℕ → ℕ → ℕ → ℕ → Type 0 where
    an_edge : (label : L) (s n : ℕ) → state_at net s ≡ Some (Edge label n) → Lies net (atom (steps.Edge label)) s n n (n + 1)
    a_call : (rule level s n : ℕ) → state_at net s ≡ Some (Call rule level n) → Lies net (atom (steps.Call rule level)) s n n (n + 1)
    a_predicate : (k s n : ℕ) → state_at net s ≡ Some (Predicate k n) → Lies net (atom (steps.Predicate k)) s n n (n + 1)
    a_level : (q s n : ℕ) → state_at net s ≡ Some (Level q n) → Lies net (atom (steps.Level q)) s n n (n + 1)
    an_action : (s n : ℕ) → state_at net s ≡ Some (Action n) → Lies net (atom steps.Action) s n n (n + 1)
    an_empty : (s n : ℕ) → state_at net s ≡ Some (Empty n) → Lies net (atom steps.Empty) s n n (n + 1)
    -- a block of one alternative is that alternative
    one_alternative : (name : Option Label) (x : Elements (Step L)) (s t n m : ℕ) → LieInOrder net x s t n m
        → Lies net (block name Once (only x)) s t n m
    -- a block of several is a decision at s, then its bodies, then t
    a_block : (name : Option Label) (xs : Alternatives (Step L)) (firsts lasts : List ℕ) (s n m : ℕ) → 2 ≤ length firsts
        → state_at net s ≡ Some (Decision firsts) →
        LieSideBySide net xs firsts lasts n m → AllLeadTo net lasts m → Lies net (block name Once xs) s m n (m + 1)
    -- `x?`: the decision at s, the bodies, an exit branch, then t
    an_optional : (name : Option Label) (sign : Suffix) (xs : Alternatives (Step L)) (firsts lasts : List ℕ) (s n m : ℕ)
        → state_at net s ≡ Some (Decision (with_exit sign.greedy firsts m)) →
        LieSideBySide net xs firsts lasts n m → AllLeadTo net lasts (m + 1) → state_at net m ≡ Some (Empty (m + 1))
        → Lies net (block name (Optional sign) xs) s (m + 1) n (m + 2)
    -- `x*`: the decision at s, the bodies, which go back to s, then the exit branch state, which is t
    a_star : (name : Option Label) (sign : Suffix) (xs : Alternatives (Step L)) (firsts lasts : List ℕ) (s n m : ℕ)
        → state_at net s ≡ Some (Decision (with_exit sign.greedy firsts m)) →
        LieSideBySide net xs firsts lasts n m → AllLeadTo net lasts s → Lies net (block name (Star sign) xs) s m n (m + 1)
    -- `x+`: from s to the bodies, then the decision u over the same bodies, then the exit branch state, which is t
    a_plus_of_one : (name : Option Label) (sign : Suffix) (xs : Alternatives (Step L)) (first : ℕ) (lasts : List ℕ) (s n m : ℕ)
        → state_at net s ≡ Some (Empty first) →
        LieSideBySide net xs (first ∷ []) lasts n m → AllLeadTo net lasts m
        → state_at net m ≡ Some (Decision (with_exit sign.greedy (first ∷ []) (m + 1))) →
        Lies net (block name (Plus sign) xs) s (m + 1) n (m + 2)
    a_plus : (name : Option Label) (sign : Suffix) (xs : Alternatives (Step L)) (firsts lasts : List ℕ) (s n m : ℕ)
        → 2 ≤ length firsts → state_at net s ≡ Some (Decision firsts) →
        LieSideBySide net xs firsts lasts n m → AllLeadTo net lasts m
        → state_at net m ≡ Some (Decision (with_exit sign.greedy firsts (m + 1))) →
        Lies net (block name (Plus sign) xs) s (m + 1) n (m + 2)

  -- the elements are laid out one after another; where there are none, t is s
  pub data LieInOrder {L : Type 0} (net : Network L) : Elements (Step L) → ℕ → ℕ → ℕ → ℕ → Type 0 where
    no_more : (s n : ℕ) → LieInOrder net empty s s n n
    one_more : (x : Element (Step L)) (xs : Elements (Step L)) (s mid t n k m : ℕ) → Lies net x s mid n k
        → LieInOrder net xs mid t k m → LieInOrder net (then x xs) s t n m

  -- the alternatives are laid out beside each other: of each its first state is made, and then its elements, up to its last
  pub data LieSideBySide {L : Type 0} (net : Network L) : Alternatives (Step L) → List ℕ → List ℕ → ℕ → ℕ → Type 0 where
    no_other : (n : ℕ) → LieSideBySide net none [] [] n n
    another : (x : Elements (Step L)) (xs : Alternatives (Step L)) (last n k m : ℕ) (firsts lasts : List ℕ)
        → LieInOrder net x n last (n + 1) k → LieSideBySide net xs firsts lasts k m →
        LieSideBySide net (or x xs) (n ∷ firsts) (last ∷ lasts) n m

-- A rule is laid out from its start to its end, its other states being those from n up to m. One alternative begins at the
-- start; of several the start is the decision.
pub data LiesAsRule {L : Type 0} (net : Network L) : ℕ → Alternatives (Step L) → ℕ → ℕ → Type 0 where
  of_one : (rule last n m : ℕ) (x : Elements (Step L)) → LieInOrder net x (start_of rule) last n m
      → state_at net last ≡ Some (Empty (end_of rule)) → LiesAsRule net rule (only x) n m
  of_several : (rule n m : ℕ) (xs : Alternatives (Step L)) (firsts lasts : List ℕ) → 2 ≤ length firsts
      → state_at net (start_of rule) ≡ Some (Decision firsts) →
      LieSideBySide net xs firsts lasts n m → AllLeadTo net lasts (end_of rule) → LiesAsRule net rule xs n m

-- the rules from this number on are laid out one after another, each ending in its end state
pub data RulesLie {L : Type 0} (net : Network L) : ℕ → List (Alternatives (Step L)) → ℕ → ℕ → Type 0 where
  no_rule : (rule n : ℕ) → RulesLie net rule [] n n
  a_rule : (rule n k m : ℕ) (xs : Alternatives (Step L)) (more : List (Alternatives (Step L))) → LiesAsRule net rule xs n k
      → state_at net (end_of rule) ≡ Some (End rule) →
      RulesLie net (rule + 1) more k m → RulesLie net rule (xs ∷ more) n m

-- the network of these rules, the added rule being the first: it has their states and no others
pub record IsNetworkOf {L : Type 0} (rules : List (Alternatives (Step L))) (net : Network L) : Type 0 where
  pub lie : RulesLie net 0 rules (2 * length rules) (length net.states)
  pub written : length net.written ≡ length net.states
