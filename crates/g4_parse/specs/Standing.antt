-- Which moment of the run the parser is at, and what one turn of it does.
use Rattle.std.specs.Prelude.{◌≡◌, ◌<◌, ◌^◌, ℕ, List, [], ◌∷◌, ◌++◌, Option, Some, None, Result, Ok, Err, ⊤, length, map}
use Rattle.g4_net.specs.declared.network.State.{State}
use Rattle.g4_net.specs.declared.network.State.TheVariants.{Decision, End, Edge, Call, Predicate, Level, Action, Empty}
use Rattle.g4_net.specs.Network.{ParserNetwork, state_at, start_of}
use Rattle.g4_net.specs.AddedRule.{IsReady}
use Rattle.g4_net.specs.Proper.{IsProper}
use Rattle.g4_trees.specs.Trees.{Forest}
use Rattle.g4_trees.specs.Growing.{Growing, OpenNode}
use Rattle.g4_trees.specs.Kept.{HasGrown}
use Rattle.g4_parse.specs.declared.parser.ParseFault.{ParseFault}
use Rattle.g4_parse.specs.declared.parser.ParseFault.TheVariants.{NoViable, Mismatch, FailedPredicate, TooDeep, NoMemory}
use Rattle.g4_parse.specs.declared.predicates.Opened.{Opened}
use Rattle.g4_parse.specs.declared.parser.Parser.{Parser}
use Rattle.g4_run.specs.Running.{backs, deepest, Frame, Run, not_viable, mismatch, failed_predicate, too_deep, level_of, rule_of, GoesBy, StopsBy, Values}

-- the return states of the open rules, newest last
abbrev pub returns_of : List Frame → List ℕ
returns_of [] = []
returns_of (f ∷ fs) = returns_of fs ++ f.back ∷ []

-- the numbers and levels of the open rules, newest last
abbrev pub opened_of : List Frame → List Opened
opened_of [] = []
opened_of (f ∷ fs) = opened_of fs ++ record { rule = f.rule; level = f.level } ∷ []

-- this is the number and the level of the newest open rule
abbrev pub IsNewestOf : List Frame → Opened → Type 0
IsNewestOf frames opened = (opened.rule ≡ rule_of frames) × (opened.level ≡ level_of frames)

-- an open rule as an open node
abbrev pub open_node : Frame → OpenNode
open_node f = record { rule = f.rule; alt = f.alt; at = f.at; children = f.children }

-- the open nodes, newest first, and the trees outside them
abbrev pub grown : List Frame → Forest → Growing
grown frames tree = record { nodes = map open_node frames; trees = tree }

-- the parser is at this moment
pub record StandsFor (p : Parser) (r : Run) : Type 0 where
  pub state : p.state ≡ r.state
  pub place : p.place ≡ r.place
  pub returns : p.returns.items ≡ returns_of r.frames
  pub opened : p.opened.items ≡ opened_of r.frames
  pub tree : HasGrown p.tree (grown r.frames r.tree)

-- the run stops at this moment with the fault, unless memory ran out
abbrev pub IsFaultBy : ParserNetwork → Values → List ℕ → Option (State (List ℕ)) → Run → ParseFault → Type 0
IsFaultBy net values word state r (NoViable at) = StopsBy net values word deepest state r (not_viable at)
IsFaultBy net values word state r (Mismatch at from) = StopsBy net values word deepest state r (mismatch at from)
IsFaultBy net values word state r (FailedPredicate at rule) = StopsBy net values word deepest state r (failed_predicate at rule)
IsFaultBy net values word state r (TooDeep at) = StopsBy net values word deepest state r (too_deep at)
IsFaultBy net values word state r NoMemory = Unit {0}

-- from this moment the run goes by the state to one that the parser is at, or it stops with the fault
abbrev pub IsTurnBy : ParserNetwork → Values → List ℕ → Option (State (List ℕ)) → Run → Parser → Result ⊤ ParseFault → Type 0
IsTurnBy net values word state r p (Ok done) = (s : Run) × GoesBy net values word deepest state r s × StandsFor p s
IsTurnBy net values word state r p (Err fault) = IsFaultBy net values word state r fault

-- what prediction asks at a decision, the token list having n tokens
pub record IsDecisionFit (net : ParserNetwork) (n : ℕ) (r : Run) : Type 0 where
  pub ready : IsReady net
  pub proper : IsProper net r.state (backs r.frames)
  pub more : r.place < n

-- What holds of a run at each state, the token list having n tokens: a call's start is a state, an edge or a decision has a
-- token left, and only the added rule ends with no rule open.
abbrev pub IsFitBy : ParserNetwork → ℕ → Option (State (List ℕ)) → Run → Type 0
IsFitBy net n None r = ⊥
IsFitBy net n (Some (Decision targets)) r = IsDecisionFit net n r
IsFitBy net n (Some (End rule)) r = r.frames ≡ [] → rule ≡ 0
IsFitBy net n (Some (Edge set t)) r = r.place < n
IsFitBy net n (Some (Call rule level back)) r = (start_of rule < length net.written) × (start_of rule < 2 ^ 32)
IsFitBy net n (Some (Predicate k t)) r = Unit {0}
IsFitBy net n (Some (Level q t)) r = r.state < length net.written
IsFitBy net n (Some (Action t)) r = Unit {0}
IsFitBy net n (Some (Empty t)) r = Unit {0}

-- the parser is at a moment of a run
abbrev pub IsUnderway : ParserNetwork → ℕ → Parser → Type 0
IsUnderway net n p = (r : Run) × StandsFor p r × IsFitBy net n (state_at net r.state) r

-- the parser is at a decision
abbrev pub IsDeciding : ParserNetwork → ℕ → Parser → Type 0
IsDeciding net n p = (r : Run) × StandsFor p r × IsDecisionFit net n r

-- the parser is at the end of a rule with no rule open
abbrev pub HasEnded : ParserNetwork → Parser → Type 0
HasEnded net p = (p.returns.items ≡ []) × ((rule : ℕ) × (state_at net p.state ≡ Some (End rule)))
