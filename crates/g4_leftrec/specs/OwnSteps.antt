-- Which steps call their own rule, and which read nothing and call nothing.
use Rattle.std.specs.Prelude.{ℕ, Bool, true, false, ◌==◌}
use Rattle.g4_grammar.specs.declared.step.Step.{Step}
use Rattle.g4_grammar.specs.declared.step.Step.TheVariants.{Edge, Call, Predicate, Level, Action, Empty}

-- a call of this rule
abbrev pub calls : {L : Type 0} → ℕ → Step L → Bool
calls k (Edge label) = false
calls k (Call rule level) = rule == k
calls k (Predicate n) = false
calls k (Level q) = false
calls k Action = false
calls k Empty = false

-- a predicate or an action
abbrev pub is_silent : {L : Type 0} → Step L → Bool
is_silent (Edge label) = false
is_silent (Call rule level) = false
is_silent (Predicate n) = true
is_silent (Level q) = false
is_silent Action = true
is_silent Empty = false
