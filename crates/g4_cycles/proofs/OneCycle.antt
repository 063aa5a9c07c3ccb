-- The first cycle is one, and so is the answer.
use Rattle.std.proofs.Common.{◌≡◌, ◌⊎◌, inl, inr, ℕ, List, [], ◌∷◌, length, Option, Some, None, ap, sym, refl, subst, arith}
use Rattle.std.proofs.lemmas.Bool.{cases_order}
use Rattle.g4_cycles.specs.Cycles.{Reaches, IsCycle, BeginsWith, Precedes, IsShortestFrom, IsFirstCycle, Answers}
use Rattle.g4_cycles.proofs.Reaching.{reaches_along}

-- of two lists as long as each other one precedes the other, or they are equal
precedes_cases : (xs ys : List ℕ) → length xs ≡ length ys → (xs ≡ ys) ⊎ (Precedes xs ys ⊎ Precedes ys xs)
precedes_cases [] [] e = inl refl
precedes_cases [] (y ∷ ys) e = absurd (omega (arith, e))
precedes_cases (x ∷ xs) [] e = absurd (omega (arith, e))
precedes_cases (x ∷ xs) (y ∷ ys) e = elim (cases_order x y) [
  | inl same ↦ elim (precedes_cases xs ys (omega (arith, e))) [
    | inl rest ↦ inl (cc)
    | inr order ↦ elim order [ inl less ↦ inr (inl (inr (same, less))) | inr more ↦ inr (inr (inr (sym same, more))) ]
  ]
  | inr order ↦ elim order [ inl less ↦ inr (inl (inl less)) | inr more ↦ inr (inr (inl more)) ]
]

module _ (Edge : ℕ → ℕ → Type 0) where
  -- the node that a cycle begins with reaches itself
  pub reaches_first : (first : ℕ) (cycle : List ℕ) → BeginsWith first cycle → IsCycle Edge cycle → Reaches Edge first first
  reaches_first first [] begins is_cycle = absurd begins
  reaches_first first (k ∷ nodes) begins walk = subst (λ (x : ℕ). Reaches Edge x x) begins (reaches_along Edge k nodes k walk)

  reaches_shortest : (first : ℕ) (cycle : List ℕ) → IsShortestFrom Edge first cycle → Reaches Edge first first
  reaches_shortest first cycle s = reaches_first first cycle s.begins s.is_cycle

  -- the shortest cycle from a node is one
  pub one_shortest : (first : ℕ) (cycle other : List ℕ) → IsShortestFrom Edge first cycle → IsShortestFrom Edge first other → cycle ≡ other
  one_shortest first cycle other s t =
      let e : length cycle ≡ length other = omega (arith, s.shortest other t.begins t.is_cycle, t.shortest cycle s.begins s.is_cycle) in
      elim (precedes_cases cycle other e) [
        | inl same ↦ same
        | inr order ↦ elim order [
          | inl less ↦ absurd (t.least cycle s.begins s.is_cycle e less)
          | inr more ↦ absurd
              (s.least other t.begins t.is_cycle (sym e) more)
        ]
      ]

  -- two lists that are both the first cycle are equal
  pub one_first_cycle : (cycle other : List ℕ) → IsFirstCycle Edge cycle → IsFirstCycle Edge other → cycle ≡ other
  one_first_cycle cycle other f g = elim (cases_order f.first g.first) [
    | inl same ↦ one_shortest g.first cycle other (subst (λ (x : ℕ). IsShortestFrom Edge x cycle) same f.shortest) g.shortest
    | inr order ↦ elim order [
      | inl less ↦ absurd (g.none_below f.first less (reaches_shortest f.first cycle f.shortest))
      | inr more ↦ absurd (f.none_below g.first more (reaches_shortest g.first other g.shortest))
    ]
  ]

  -- where there is a first cycle, a node reaches itself
  not_none : (cycle : List ℕ) → IsFirstCycle Edge cycle → ((k : ℕ) → Reaches Edge k k → ⊥) → ⊥
  not_none cycle f none = none f.first (reaches_shortest f.first cycle f.shortest)

  -- the answer is one
  pub one_answer : (a b : Option (List ℕ)) → Answers Edge a → Answers Edge b → a ≡ b
  one_answer None None f g = refl
  one_answer None (Some cycle) f g = absurd (not_none cycle g f)
  one_answer (Some cycle) None f g = absurd (not_none cycle f g)
  one_answer (Some cycle) (Some other) f g = ap (λ (x : List ℕ). Some x) (one_first_cycle cycle other f g)
