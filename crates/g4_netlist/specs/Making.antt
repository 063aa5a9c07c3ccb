-- In which order the states of a network are made, and how many predicates are made before a state.
use Rattle.std.specs.Prelude.{ℕ, ◌+◌, ◌*◌, List, [], ◌∷◌, Bool, true, false, Option, Some, None, cond, nat_lt, length}
use Rattle.std.specs.List.{count_by, flat_map, range_with_len}
use Rattle.std.specs.List.Sorted.{IsNonDecreasing, IsPermutation}
use Rattle.g4_net.specs.declared.network.State.{State}
use Rattle.g4_net.specs.declared.network.State.TheVariants.{Decision, End, Edge, Call, Predicate, Level, Action, Empty}
use Rattle.g4_net.specs.Network.{ParserNetwork, state_at, start_of}

-- The order of state p among the states as they are made. The starts and ends of R rules have the numbers below 2R, and then the bodies of
-- the rules are made. What is at a rule's start is made with its body: a predicate at a rule's start is made directly before the state t
-- that it leads to. Every other state is made in order of its number.
abbrev pub order_of : ParserNetwork → ℕ → State (List ℕ) → ℕ
order_of net p (Decision targets) = 2 * p + 1
order_of net p (End rule) = 2 * p + 1
order_of net p (Edge set t) = 2 * p + 1
order_of net p (Call rule level back) = 2 * p + 1
order_of net p (Predicate k t) = cond (nat_lt p (start_of (length net.callers))) (2 * t) (2 * p + 1)
order_of net p (Level q t) = 2 * p + 1
order_of net p (Action t) = 2 * p + 1
order_of net p (Empty t) = 2 * p + 1

-- whether a state is a predicate
abbrev pub is_predicate : State (List ℕ) → Bool
is_predicate (Decision targets) = false
is_predicate (End rule) = false
is_predicate (Edge set t) = false
is_predicate (Call rule level back) = false
is_predicate (Predicate k t) = true
is_predicate (Level q t) = false
is_predicate (Action t) = false
is_predicate (Empty t) = false

-- the order of the state that was looked up at p, if it is a predicate
abbrev pub predicate_order_by : ParserNetwork → ℕ → Option (State (List ℕ)) → List ℕ
predicate_order_by net p None = []
predicate_order_by net p (Some state) = cond (is_predicate state) (order_of net p state ∷ []) []

-- the orders of the predicates below state n
abbrev pub predicate_orders_below : ParserNetwork → ℕ → List ℕ
predicate_orders_below net n = flat_map (λ p. predicate_order_by net p (state_at net p)) (range_with_len 0 n)

-- the orders of the network's predicates
abbrev pub predicate_orders : ParserNetwork → List ℕ
predicate_orders net = predicate_orders_below net (length net.states)

-- how many predicates of the network are made before state p
abbrev pub predicates_before : ParserNetwork → ℕ → State (List ℕ) → ℕ
predicates_before net p state = count_by (λ order. nat_lt order (order_of net p state)) (predicate_orders net)

-- the orders of the network's predicates, least first
pub record AreOrders (net : ParserNetwork) (orders : List ℕ) : Type 0 where
  pub same : IsPermutation (predicate_orders net) orders
  pub rising : IsNonDecreasing orders
