-- The definite clauses that decide which states are nullable.
use Rattle.std.specs.Prelude.{◌≡◌, ◌↔◌, ◌⊎◌, ℕ, List, [], ◌∷◌, Some, slice_get, Contains}
use Rattle.g4_horn.specs.declared.clause.Clause.{Clause}
use Rattle.g4_net.specs.declared.network.State.{State}
use Rattle.g4_net.specs.declared.network.State.TheVariants.{End, Call}
use Rattle.g4_net.specs.Network.{start_of}
use Rattle.g4_net_check.specs.Steps.{epsilon_targets}

-- the state is nullable where these states are
abbrev pub NeedsOf : {L : Type 0} → State L → List ℕ → Type 0
NeedsOf (End rule) needs = needs ≡ []
NeedsOf (Call rule level back) needs = needs ≡ start_of rule ∷ back ∷ []
NeedsOf s needs = (t : ℕ) × Contains (epsilon_targets s) t × (needs ≡ t ∷ [])

-- one of the clauses has this head and these needs
abbrev pub HasClause : List Clause → ℕ → List ℕ → Type 0
HasClause clauses head needs = (clause : Clause) × Contains clauses clause × (clause.head ≡ head) × (clause.needs.items ≡ needs)

-- the clauses after are those before and, for each list of such needs, one with this head
abbrev pub AddsClauses : ℕ → (List ℕ → Type 0) → List Clause → List Clause → Type 0
AddsClauses head Needs before after = (h : ℕ) (needs : List ℕ)
    → HasClause after h needs ↔ (HasClause before h needs ⊎ ((h ≡ head) × Needs needs))

-- the clauses are those of the states, by their numbers
abbrev pub AreClauses : {L : Type 0} → List (State L) → List Clause → Type 0
AreClauses {L} states clauses = (h : ℕ) (needs : List ℕ)
    → HasClause clauses h needs ↔ ((s : State L) × (slice_get states h ≡ Some s) × NeedsOf s needs)
