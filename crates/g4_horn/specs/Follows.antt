-- What follows from definite clauses.
use Rattle.std.specs.Prelude.{◌≡◌, ◌↔◌, ℕ, List, [], ◌∷◌, Bool, true, Some, slice_get, Contains}
use Rattle.g4_horn.specs.declared.clause.Clause.{Clause}

mutual
  -- the number follows: it is the head of a clause whose needs all follow
  pub data Follows (clauses : List Clause) : ℕ → Type 0 where
    by_clause : (number : ℕ) (clause : Clause) → Contains clauses clause → clause.head ≡ number → AllFollow clauses clause.needs.items
        → Follows clauses number

  -- each of the numbers follows
  pub data AllFollow (clauses : List Clause) : List ℕ → Type 0 where
    nothing : AllFollow clauses []
    one_more : (number : ℕ) (numbers : List ℕ) → Follows clauses number → AllFollow clauses numbers → AllFollow clauses (number ∷ numbers)

-- the answers are true at exactly the numbers with this property
abbrev pub Tells : List Bool → (ℕ → Type 0) → Type 0
Tells answers P = (number : ℕ) → (slice_get answers number ≡ Some true) ↔ P number
