-- The listing of a rule, as bytes.
use Rattle.std.specs.Prelude.{◌≡◌, ℕ, ◌-◌, List, [], ◌++◌, Option, Some, None, cond, ◌==◌, codes, slice_get}
use Rattle.std.specs.List.{flat_map}
use Rattle.std.specs.Fmt.{decimal}
use Rattle.g4_net.specs.declared.network.State.{State}
use Rattle.g4_net.specs.declared.network.State.TheVariants.{Decision, End, Edge, Call, Predicate, Level, Action, Empty}
use Rattle.g4_net.specs.Network.{ParserNetwork, state_at}
use Rattle.g4_netlist.specs.Making.{predicates_before}
use Rattle.g4_netlist.specs.OfRule.{AreStatesOf}
use Rattle.g4_netlist.specs.Shown.{or_nothing, shown_set}

-- the name of a rule, where these are the names of the rules from 1 on: `S'` for rule 0, which is the added rule, and nothing
-- for a rule past the last name
abbrev pub name_of : List (List ℕ) → ℕ → List ℕ
name_of names rule = cond (rule == 0) (codes "S'") (or_nothing (slice_get names (rule - 1)))

-- numbers, a space before each
abbrev pub spaced : List ℕ → List ℕ
spaced numbers = flat_map (λ number. codes " " ++ decimal number) numbers

-- what is listed of a state after its number, where so many predicates are made before it: of a predicate that is its number in the listing
abbrev pub state_text : List (List ℕ) → List (List ℕ) → ℕ → State (List ℕ) → List ℕ
state_text names shown before (Decision targets) = codes "decision" ++ spaced targets
state_text names shown before (End rule) = codes "end"
state_text names shown before (Edge set t) = codes "token " ++ (shown_set shown set ++ (codes " " ++ decimal t))
state_text names shown before (Call rule level back) =
    codes "call " ++ (name_of names rule ++ (codes " " ++ (decimal level ++ (codes " " ++ decimal back))))
state_text names shown before (Predicate k t) = codes "pred " ++ (decimal before ++ (codes " " ++ decimal t))
state_text names shown before (Level q t) = codes "level " ++ (decimal q ++ (codes " " ++ decimal t))
state_text names shown before (Action t) = codes "action " ++ decimal t
state_text names shown before (Empty t) = codes "empty " ++ decimal t

-- the line of state p
abbrev pub state_line : List (List ℕ) → List (List ℕ) → ℕ → ℕ → State (List ℕ) → List ℕ
state_line names shown before p state = decimal p ++ (codes " " ++ (state_text names shown before state ++ codes "\n"))

-- the line of a state that was looked up, nothing where there is none
abbrev pub line_by : List (List ℕ) → List (List ℕ) → ParserNetwork → ℕ → Option (State (List ℕ)) → List ℕ
line_by names shown net p None = []
line_by names shown net p (Some state) = state_line names shown (predicates_before net p state) p state

-- the line of the state of this number
abbrev pub line_of : List (List ℕ) → List (List ℕ) → ParserNetwork → ℕ → List ℕ
line_of names shown net p = line_by names shown net p (state_at net p)

-- the lines of states by their numbers
abbrev pub lines_of : List (List ℕ) → List (List ℕ) → ParserNetwork → List ℕ → List ℕ
lines_of names shown net states = flat_map (line_of names shown net) states

-- The bytes are the listing of the rule: its name and a newline, then the lines of its states by number. `names` are the names
-- of the rules from 1 on, `shown` is what is shown of the token types from 1 on.
pub record IsListing (names shown : List (List ℕ)) (net : ParserNetwork) (rule : ℕ) (bytes : List ℕ) : Type 0 where
  pub states : List ℕ
  pub are_states : AreStatesOf net rule states
  pub has_lines : bytes ≡ name_of names rule ++ (codes "\n" ++ lines_of names shown net states)
