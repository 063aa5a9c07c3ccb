-- What reaches what, and the nodes of cycles.
use Rattle.std.proofs.Common.{◌≡◌, ◌⊎◌, ◌↔◌, inl, inr, ℕ, zero, suc, List, [], ◌∷◌, Contains, refl, subst, arith}
use Rattle.g4_cycles.specs.Cycles.{Reaches, once, further, LeadsAlong, IsCycle}

-- an item is the first one or among the rest
pub contains_cases : (x : ℕ) (xs : List ℕ) (y : ℕ) → Contains (x ∷ xs) y → (x ≡ y) ⊎ Contains xs y
contains_cases x xs y (zero, within, is) = inl is
contains_cases x xs y (suc k, within, is) = inr (k, omega (arith, within), is)

module _ (Edge : ℕ → ℕ → Type 0) where
  -- a node reaches the end of a walk from it
  pub reaches_along : (k : ℕ) (nodes : List ℕ) (j : ℕ) → LeadsAlong Edge k nodes j → Reaches Edge k j
  reaches_along k [] j e = once k j e
  reaches_along k (i ∷ nodes) j (e, walk) = further k i j e (reaches_along i nodes j walk)

  -- and what it reaches is the end of one
  pub along_reached : (k j : ℕ) → Reaches Edge k j → (nodes : List ℕ) × LeadsAlong Edge k nodes j
  along_reached k j (once a b e) = ([], e)
  along_reached k j (further a i b e more) = let walk = along_reached i j more in (i ∷ walk.0, (e, walk.1))

  pub reaches_on : (k i j : ℕ) → Reaches Edge k i → Reaches Edge i j → Reaches Edge k j
  reaches_on k i j (once a b e) more = further k i j e more
  reaches_on k i j (further a h b e rest) more = further k h j e (reaches_on h i j rest more)

  -- a walk reaches each of its nodes, and each of them reaches its end
  reaches_between : (k : ℕ) (nodes : List ℕ) (j i : ℕ) → LeadsAlong Edge k nodes j → Contains nodes i → Reaches Edge k i × Reaches Edge i j
  reaches_between k [] j i walk has = absurd (omega (arith, has.1))
  reaches_between k (h ∷ nodes) j i (e, walk) has = elim (contains_cases h nodes i has) [
    | inl is ↦ (once k i (subst (Edge k) is e), subst (λ (x : ℕ). Reaches Edge x j) is (reaches_along h nodes j walk))
    | inr more ↦ (let both = reaches_between h nodes j i walk more in (further k h i e both.0, both.1))
  ]

  on_cycle_reaches : (cycle : List ℕ) (k : ℕ) → IsCycle Edge cycle → Contains cycle k → Reaches Edge k k
  on_cycle_reaches [] k is_cycle has = absurd is_cycle
  on_cycle_reaches (first ∷ nodes) k walk has = elim (contains_cases first nodes k has) [
    | inl is ↦ subst (λ (x : ℕ). Reaches Edge x x) is (reaches_along first nodes first walk)
    | inr more ↦ (let both = reaches_between first nodes first k walk more in reaches_on k first k both.1 both.0)
  ]

  -- a node is on a cycle exactly where it reaches itself
  pub on_a_cycle : (k : ℕ) → Reaches Edge k k ↔ ((cycle : List ℕ) × IsCycle Edge cycle × Contains cycle k)
  on_a_cycle k = (
    (λ reaches. let walk = along_reached k k reaches in (k ∷ walk.0, walk.1, (0, omega arith, refl))),
    (λ (cycle, is_cycle, has). on_cycle_reaches cycle k is_cycle has),
  )
