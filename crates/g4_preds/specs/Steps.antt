-- What a parser keeps of the earlier tokens: operators wait until their operands are read. For the contracts of its own
-- functions; what a predicate is, the grammar says.
use Rattle.std.specs.Prelude.{◌≡◌, ℕ, zero, suc, Bool, true, false, List, [], ◌∷◌, ◌++◌, Option, Some, None, Result, Ok, Err, if◌then◌else◌}
use Rattle.g4_preds.specs.declared.fault.Fault.{Fault}
use Rattle.g4_preds.specs.declared.fault.Fault.TheVariants.{Unknown, NoMemory}
use Rattle.g4_preds.specs.declared.node.Test.{Test}
use Rattle.g4_preds.specs.declared.node.Node.{Node}
use Rattle.g4_preds.specs.declared.node.Node.TheVariants.{Operand, Not, And, Or}
use Rattle.g4_preds.specs.declared.operators.Operator.{Operator}
use Rattle.g4_preds.specs.declared.operators.Operator.TheVariants.{Negation, Conjunction, Disjunction, Parenthesis}
use Rattle.g4_preds.specs.declared.parser.Parser.{Parser}
use Rattle.g4_preds.specs.declared.test_reader.Found.{Found}
use Rattle.g4_preds.specs.declared.token.Token.{Token}
use Rattle.g4_preds.specs.declared.token.Token.TheVariants.{LeftParenthesis, RightParenthesis, Exclamation, DoubleAmpersand, DoubleBar}
use Rattle.g4_preds.specs.Tests.{first_test}

-- the nodes so far, the operators and parentheses that wait, newest first, and whether an operand comes next
pub record State : Type 0 where
  pub nodes : List Node
  pub pending : List Operator
  pub wants_operand : Bool

abbrev pub state_of : Parser → State
state_of p = record { nodes = p.nodes.items; pending = p.pending; wants_operand = p.wants_operand }

-- nothing is read
abbrev pub start : State
start = record { nodes = []; pending = []; wants_operand = true }

-- after an operator or a parenthesis
abbrev pub waiting : Operator → State → State
waiting operator s = record { nodes = s.nodes; pending = operator ∷ s.pending; wants_operand = true }

-- after an operand: each `!` and `&&` directly before it takes it
abbrev pub completed : List Node → List Operator → State
completed nodes [] = record { nodes = nodes; pending = []; wants_operand = false }
completed nodes (Negation ∷ pending) = completed (nodes ++ Not ∷ []) pending
completed nodes (Conjunction ∷ pending) = completed (nodes ++ And ∷ []) pending
completed nodes (Disjunction ∷ pending) = record { nodes = nodes; pending = Disjunction ∷ pending; wants_operand = false }
completed nodes (Parenthesis ∷ pending) = record { nodes = nodes; pending = Parenthesis ∷ pending; wants_operand = false }

-- the nodes where an operand of `||` ends, with the `||` that waits for it
abbrev pub joined_nodes : List Node → List Operator → List Node
joined_nodes nodes (Disjunction ∷ pending) = nodes ++ Or ∷ []
joined_nodes nodes pending = nodes

-- what waits then
abbrev pub joined_pending : List Operator → List Operator
joined_pending (Disjunction ∷ pending) = pending
joined_pending pending = pending

abbrev pub joined : State → State
joined s = record { nodes = joined_nodes s.nodes s.pending; pending = joined_pending s.pending; wants_operand = s.wants_operand }

-- after a test
abbrev pub past_test : State → Test → State
past_test s t = completed (s.nodes ++ Operand t ∷ []) s.pending

-- after a `)`, if a `(` waits
abbrev pub closed : List Node → List Operator → Option State
closed nodes [] = None
closed nodes (Negation ∷ pending) = None
closed nodes (Conjunction ∷ pending) = None
closed nodes (Disjunction ∷ pending) = None
closed nodes (Parenthesis ∷ pending) = Some (completed nodes pending)

abbrev pub past_right : State → Option State
past_right s = closed (joined_nodes s.nodes s.pending) (joined_pending s.pending)

-- a state, with the number of tokens after the first that led to it
pub record Step : Type 0 where
  pub state : State
  pub more : ℕ

-- after the test that the tokens begin with
abbrev pub test_step : State → Option Found → Option Step
test_step s (Some found) = Some (record { state = past_test s found.test; more = found.more })
test_step s None = None

-- after what begins an operand
abbrev pub operand_step : State → List Token → Option Step
operand_step s (Exclamation ∷ rest) = Some (record { state = waiting Negation s; more = 0 })
operand_step s (LeftParenthesis ∷ rest) = Some (record { state = waiting Parenthesis s; more = 0 })
operand_step s tokens = test_step s (first_test tokens)

-- after what may follow an operand
abbrev pub operator_step : State → Token → Option State
operator_step s DoubleAmpersand = Some (waiting Conjunction s)
operator_step s DoubleBar = Some (waiting Disjunction (joined s))
operator_step s RightParenthesis = past_right s
operator_step s token = None

abbrev pub one_token : Option State → Option Step
one_token (Some s) = Some (record { state = s; more = 0 })
one_token None = None

-- after the next tokens, if some predicate goes on so
abbrev pub next_step : State → List Token → Option Step
next_step s [] = None
next_step s (token ∷ rest) = if s.wants_operand then operand_step s (token ∷ rest) else one_token (operator_step s token)

-- the nodes, if nothing waits
abbrev pub nodes_if_none : List Node → List Operator → Option (List Node)
nodes_if_none nodes [] = Some nodes
nodes_if_none nodes (operator ∷ pending) = None

-- the nodes of a predicate that ends here
abbrev pub finished : State → Option (List Node)
finished s = if s.wants_operand then None else nodes_if_none (joined_nodes s.nodes s.pending) (joined_pending s.pending)

-- the nodes of a predicate that goes on with these tokens; the first are passed over
abbrev pub nodes_from : ℕ → State → List Token → Option (List Node)
nodes_from skip s [] = finished s
nodes_from (suc skip) s (token ∷ rest) = nodes_from skip s rest
nodes_from zero s (token ∷ rest) = elim (next_step s (token ∷ rest)) [ Some step ↦ nodes_from step.more step.state rest | None ↦ None ]

-- the call takes this step
abbrev pub Takes : Option Step → State → Result ℕ Fault → Type 0
Takes step new (Ok more) = step ≡ Some (record { state = new; more = more })
Takes step new (Err Unknown) = step ≡ None
Takes step new (Err NoMemory) = Unit {0}

-- the call leads to this state
abbrev pub Leads : Option State → State → Result (Unit {0}) Fault → Type 0
Leads to new (Ok _) = to ≡ Some new
Leads to new (Err Unknown) = to ≡ None
Leads to new (Err NoMemory) = Unit {0}
