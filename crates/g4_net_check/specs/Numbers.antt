-- The numbers in a network.
use Rattle.std.specs.Prelude.{◌≡◌, ◌≤◌, ◌<◌, ◌*◌, ℕ, All, length}
use Rattle.g4_net.specs.declared.network.Network.{Network}
use Rattle.g4_net.specs.declared.network.State.{State}
use Rattle.g4_net.specs.declared.network.State.TheVariants.{Decision, End, Edge, Call, Predicate, Level, Action, Empty}

-- a state of a network of this many states and rules: its targets are states, the rule that it calls or ends is a rule, and a
-- decision has two alternatives or more
abbrev pub StateFits : {L : Type 0} → ℕ → ℕ → State L → Type 0
StateFits states rules (Decision targets) = (2 ≤ length targets) × All (λ t. t < states) targets
StateFits states rules (End rule) = rule < rules
StateFits states rules (Edge label t) = t < states
StateFits states rules (Call rule level back) = (rule < rules) × (back < states)
StateFits states rules (Predicate k t) = t < states
StateFits states rules (Level q t) = t < states
StateFits states rules (Action t) = t < states
StateFits states rules (Empty t) = t < states

-- Each rule has two states, each state the number of an alternative or 0, and each state fits.
pub record NumbersFit {L : Type 0} (net : Network L) : Type 0 where
  pub rules : 2 * length net.callers ≤ length net.states
  pub written : length net.written ≡ length net.states
  pub states : All (StateFits (length net.states) (length net.callers)) net.states
