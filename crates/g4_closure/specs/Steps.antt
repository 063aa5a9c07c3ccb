-- Where groups of configurations lead.
use Rattle.std.specs.Prelude.{◌≡◌, ◌<◌, ◌==◌, ℕ, ◌+◌, List, [], ◌∷◌, ◌++◌, ◌↔◌, Bool, Contains, Option, Some, None, slice_get, if◌then◌else◌}
use Rattle.std.specs.List.{list_any}
use Rattle.g4_net.specs.declared.network.State.{State}
use Rattle.g4_net.specs.declared.network.State.TheVariants.{Decision, End, Edge, Call, Predicate, Level, Action, Empty}
use Rattle.g4_net.specs.Configurations.{Config}
use Rattle.g4_net.specs.Network.{ParserNetwork, state_at}
use Rattle.g4_net.specs.Leads.{Leads, LeadsBy, Reaches, Returns}
use Rattle.g4_configs.specs.declared.group.Group.{Group}

-- what some member of the set leads to in one step
abbrev pub LedFrom : ParserNetwork → (Config → Type 0) → Config → Type 0
LedFrom net C d = (c : Config) × C c × Leads net c d

-- what some member of the set leads to in any number of steps
abbrev pub ReachedFrom : ParserNetwork → (Config → Type 0) → Config → Type 0
ReachedFrom net C d = (c : Config) × C c × Reaches net c d

-- the set has what its members lead to
abbrev pub IsClosed : ParserNetwork → (Config → Type 0) → Type 0
IsClosed net C = (c d : Config) → C c → Leads net c d → C d

-- what some member of the set leads to in one step, its state being this
abbrev pub SteppedFrom : ParserNetwork → Option (State (List ℕ)) → (Config → Type 0) → Config → Type 0
SteppedFrom net o C d = (c : Config) × C c × LeadsBy net o c d

-- where the end of the rule leads from some member of the set
abbrev pub ReturnedFrom : ParserNetwork → ℕ → (Config → Type 0) → Config → Type 0
ReturnedFrom net rule C d = (c : Config) × C c × Returns net rule c c.stack.returns c.stack.wild d

-- the stacks of a set at a state
abbrev pub placed : ℕ → ℕ → ℕ → Group
placed alternative stacks t = record { state = t; alternative = alternative; stacks = stacks }

-- what is below the top of stacks, at the state that was on top
abbrev pub popped_to : ℕ → ℕ × ℕ → Group
popped_to alternative e = record { state = e.0; alternative = alternative; stacks = e.1 }

-- the return states listed of a rule
abbrev pub listed_by : Option (List ℕ) → List ℕ
listed_by None = []
listed_by (Some listed) = listed

-- the first states of a decision's alternatives, by its state
abbrev pub alternatives_by : Option (State (List ℕ)) → List ℕ
alternatives_by (Some (Decision targets)) = targets
alternatives_by (Some (End rule)) = []
alternatives_by (Some (Edge set t)) = []
alternatives_by (Some (Call rule level back)) = []
alternatives_by (Some (Predicate k t)) = []
alternatives_by (Some (Level q t)) = []
alternatives_by (Some (Action t)) = []
alternatives_by (Some (Empty t)) = []
alternatives_by None = []

-- the first state of one of the first n alternatives, if it is allowed, with a set of stacks
abbrev pub FirstsBelow : (ℕ → Type 0) → ℕ → List ℕ → ℕ → Group → Type 0
FirstsBelow A stacks targets n x = A x.alternative
    × ((k : ℕ) × (k < n) × (slice_get targets k ≡ Some x.state) × (x.alternative ≡ k + 1)) × (x.stacks ≡ stacks)

-- the list has the members and no others
abbrev pub AreExactly : List Group → (Group → Type 0) → Type 0
AreExactly xs P = (x : Group) → Contains xs x ↔ P x

-- the set has the symbol
abbrev pub has_symbol : List ℕ → ℕ → Bool
has_symbol set symbol = list_any (λ s. s == symbol) set

-- where the edge of a state leads, if it takes the symbol
abbrev pub target_by : ℕ → Option (State (List ℕ)) → Option ℕ
target_by symbol (Some (Edge set t)) = if has_symbol set symbol then Some t else None
target_by symbol (Some (Decision targets)) = None
target_by symbol (Some (End rule)) = None
target_by symbol (Some (Call rule level back)) = None
target_by symbol (Some (Predicate k t)) = None
target_by symbol (Some (Level q t)) = None
target_by symbol (Some (Action t)) = None
target_by symbol (Some (Empty t)) = None
target_by symbol None = None

-- the group at the target, if there is one
abbrev pub moved_by : Group → Option ℕ → List Group
moved_by x None = []
moved_by x (Some t) = placed x.alternative x.stacks t ∷ []

-- where the edges that take the symbol lead
abbrev pub targets_of : ParserNetwork → ℕ → List Group → List Group
targets_of net symbol [] = []
targets_of net symbol (x ∷ xs) = moved_by x (target_by symbol (state_at net x.state)) ++ targets_of net symbol xs
