-- The parse run over a network, as a relation.
use Rattle.std.specs.Prelude.{◌≡◌, ◌≤◌, ◌<◌, ℕ, ◌+◌, List, [], ◌∷◌, Option, Some, None, Bool, true, false, cond, ◌==◌, slice_get, length, drop, map, Contains}
use Rattle.g4_net.specs.declared.network.State.{State}
use Rattle.g4_net.specs.declared.network.State.TheVariants.{Decision, End, Edge, Call, Predicate, Level, Action, Empty}
use Rattle.g4_net.specs.Network.{ParserNetwork, state_at, start_of, IsFirst, written_at}
use Rattle.g4_net.specs.Configurations.{Stack, above_bottom}
use Rattle.g4_net.specs.Prediction.{Choice, chosen, no_viable, IsTestBy}
use Rattle.g4_guards.specs.Choosing.{Chooses}
use Rattle.g4_trees.specs.Trees.{Tree, leaf, node, Forest, no_tree, and_then, only}

-- An open rule: its return state and level; the node so far, with its rule, alternative and place, and its children.
pub record Frame : Type 0 where
  pub back : ℕ
  pub level : ℕ
  pub rule : ℕ
  pub alt : ℕ
  pub at : ℕ
  pub children : Forest

-- A moment of the run: the state, the place in the token list, the open rules, newest first, and what the added rule,
-- which has no node itself, has as its tree so far.
pub record Run : Type 0 where
  pub state : ℕ
  pub place : ℕ
  pub frames : List Frame
  pub tree : Forest

-- how a run ends: with its tree, or with the fault at which no step exists
pub data Ending : Type 0 where
  parsed : Tree → Ending
  not_viable : ℕ → Ending
  mismatch : ℕ → ℕ → Ending
  failed_predicate : ℕ → ℕ → Ending
  too_deep : ℕ → Ending

-- the most rules that may be open
abbrev pub deepest : ℕ
deepest = 10000

-- the value of a predicate by its number, the rules that are open, newest first, and the place
abbrev pub Values : Type 0
Values = ℕ → List ℕ → ℕ → Bool

-- What a run goes over: the symbols of a token list, and the values of the predicates over it.
pub record RunOver : Type 0 where
  pub word : List ℕ
  pub values : Values

-- the run's beginning
abbrev pub beginning : Run
beginning = record { state = 0; place = 0; frames = []; tree = no_tree }

-- the return states of the open rules, newest first
abbrev pub backs : List Frame → List ℕ
backs frames = map (λ f. f.back) frames

-- the parser's stack
abbrev pub stack_of : Run → Stack
stack_of r = above_bottom (backs r.frames)

-- the open rules by their numbers, newest first
abbrev pub open_rules : Run → List ℕ
open_rules r = map (λ f. f.rule) r.frames

-- the newest open rule's level, 0 in the added rule
abbrev pub level_of : List Frame → ℕ
level_of [] = 0
level_of (f ∷ fs) = f.level

-- the newest open rule's number, 0 in the added rule
abbrev pub rule_of : List Frame → ℕ
rule_of [] = 0
rule_of (f ∷ fs) = f.rule

-- the node of an open rule with its children so far, closed
abbrev pub node_of : Frame → Tree
node_of f = node f.rule f.alt f.at f.children

-- the run with one more child of the newest open rule
abbrev pub with_child : Run → List Frame → Tree → Run
with_child r [] t = record r { frames = []; tree = and_then r.tree (only t) }
with_child r (f ∷ fs) t = record r { frames = record f { children = and_then f.children (only t) } ∷ fs }

-- a token is a child of the newest open rule; the added rule keeps none
abbrev pub with_token : Run → List Frame → Run
with_token r [] = r
with_token r (f ∷ fs) = with_child r (f ∷ fs) (leaf r.place)

-- the alternative of the newest node, where one as the grammar writes it begins at the state
abbrev pub with_alt : ℕ → List Frame → List Frame
with_alt i [] = []
with_alt i (f ∷ fs) = record f { alt = cond (i == 0) f.alt i } ∷ fs

-- the run whose newest node has this alternative, where one begins
abbrev pub with_begun : ℕ → Run → Run
with_begun i r = record r { frames = with_alt i r.frames }

-- a level edge makes the node so far the first child of a new node of the same rule, which begins where that child does
abbrev pub wrapped : ℕ → List Frame → List Frame
wrapped i [] = []
wrapped i (f ∷ fs) = record f { alt = i; children = only (node_of f) } ∷ fs

-- the alternative that a state begins, where no level edge will begin it
abbrev pub begun : ParserNetwork → ℕ → Option (State (List ℕ)) → ℕ
begun net t (Some (Level q u)) = 0
begun net t (Some (Decision targets)) = written_at net t
begun net t (Some (End rule)) = written_at net t
begun net t (Some (Edge set u)) = written_at net t
begun net t (Some (Call rule level back)) = written_at net t
begun net t (Some (Predicate k u)) = written_at net t
begun net t (Some (Action u)) = written_at net t
begun net t (Some (Empty u)) = written_at net t
begun net t None = 0

module _ (net : ParserNetwork) (values : Values) (word : List ℕ) where
  -- the predicates and levels that begin at the state are true at this moment, each of them
  pub data Passes (r : Run) : ℕ → Type 0 where
    no_test : (p : ℕ) → (IsTestBy (state_at net p) → ⊥) → Passes r p
    predicate_holds : (p k t : ℕ) → state_at net p ≡ Some (Predicate k t) → values k (open_rules r) r.place ≡ true → Passes r t → Passes r p
    level_holds : (p q t : ℕ) → state_at net p ≡ Some (Level q t) → level_of r.frames ≤ q → Passes r t → Passes r p

  -- the alternative is allowed at the decision of this moment: its first predicates and levels are all true
  abbrev pub AllowsAt : Run → ℕ → Type 0
  AllowsAt r i = (t : ℕ) × IsFirst net r.state i t × Passes r t

  -- what prediction chooses at the decision of this moment
  abbrev pub Predicts : Run → Choice → Type 0
  Predicts r c = Chooses net r.state (AllowsAt r) (stack_of r) (drop r.place word) c

  -- the end of a rule closes its node, and the run goes on at the return state
  abbrev pub ClosesBy : Run → List Frame → Run → Type 0
  ClosesBy r [] s = ⊥
  ClosesBy r (f ∷ fs) s = s ≡ with_child (record r { state = f.back; frames = fs }) fs (node_of f)

  -- with at most `limit` rules open
  module _ (limit : ℕ) where
    -- one step of the run, by the state
    abbrev pub GoesBy : Option (State (List ℕ)) → Run → Run → Type 0
    GoesBy None r s = ⊥
    GoesBy (Some (Decision targets)) r s = (i t : ℕ) × Predicts r (chosen i) × IsFirst net r.state i t ×
        (s ≡ record r { state = t; frames = with_alt (begun net t (state_at net t)) r.frames })
    GoesBy (Some (End rule)) r s = ClosesBy r r.frames s
    GoesBy (Some (Edge set t)) r s = (a : ℕ) × (slice_get word r.place ≡ Some a) × Contains set a ×
        (s ≡ record (with_token r r.frames) { state = t; place = r.place + 1 })
    GoesBy (Some (Call rule level back)) r s = (length r.frames < limit)
        × (s ≡ record r {
          state = start_of rule;
          frames = record
              { back = back; level = level; rule = rule; alt = written_at net (start_of rule); at = r.place; children = no_tree }
              ∷ r.frames;
        })
    GoesBy (Some (Predicate k t)) r s = (values k (open_rules r) r.place ≡ true) × (s ≡ record r { state = t })
    GoesBy (Some (Level q t)) r s = (level_of r.frames ≤ q) ×
        (s ≡ record r { state = t; frames = wrapped (written_at net r.state) r.frames })
    GoesBy (Some (Action t)) r s = s ≡ record r { state = t }
    GoesBy (Some (Empty t)) r s = s ≡ record r { state = t }

    -- one step of the run
    abbrev pub Goes : Run → Run → Type 0
    Goes r s = GoesBy (state_at net r.state) r s

    -- the run comes from the one moment to the other
    pub data Comes : Run → Run → Type 0 where
      comes_there : (r : Run) → Comes r r
      comes_on : (r s u : Run) → Comes r s → Goes s u → Comes r u

    -- where no step exists: the end of the added rule, or a fault
    abbrev pub StopsBy : Option (State (List ℕ)) → Run → Ending → Type 0
    StopsBy None r e = ⊥
    StopsBy (Some (Decision targets)) r e = (k : ℕ) × Predicts r (no_viable k) × (e ≡ not_viable (r.place + k))
    StopsBy (Some (End rule)) r e = (r.frames ≡ []) × (rule ≡ 0) × ((t : Tree) × (r.tree ≡ only t) × (e ≡ parsed t))
    StopsBy (Some (Edge set t)) r e = (a : ℕ) × (slice_get word r.place ≡ Some a) × (Contains set a → ⊥) × (e ≡ mismatch r.place r.state)
    StopsBy (Some (Call rule level back)) r e = (limit ≤ length r.frames) × (e ≡ too_deep r.place)
    StopsBy (Some (Predicate k t)) r e = (values k (open_rules r) r.place ≡ false) × (e ≡ failed_predicate r.place (rule_of r.frames))
    StopsBy (Some (Level q t)) r e = (q < level_of r.frames) × (e ≡ failed_predicate r.place (rule_of r.frames))
    StopsBy (Some (Action t)) r e = ⊥
    StopsBy (Some (Empty t)) r e = ⊥

    -- the run stops here with this ending
    abbrev pub Stops : Run → Ending → Type 0
    Stops r e = StopsBy (state_at net r.state) r e

    -- the run from this moment has this ending
    pub data Runs : Run → Ending → Type 0 where
      stops : (r : Run) (e : Ending) → Stops r e → Runs r e
      goes : (r s : Run) (e : Ending) → Goes r s → Runs s e → Runs r e

-- the run over the whole word has this ending
abbrev pub Ends : ParserNetwork → Values → List ℕ → Ending → Type 0
Ends net values word e = Runs net values word deepest beginning e

-- the run over the whole word comes to this moment
abbrev pub Reaches : ParserNetwork → Values → List ℕ → Run → Type 0
Reaches net values word r = Comes net values word deepest beginning r
