-- Symbols and their indices.
use Rattle.std.proofs.Common.{◌≡◌, ℕ, ◌+◌, ◌-◌, ◌<◌, ◌≤◌, ◌⊎◌, inl, inr, eqb, ltb, leb, Bool, true, false, cond, Some, None, sym, ◌∙◌, ap, subst, arith}
use Rattle.std.specs.Prelude.{◌&&◌}
use Rattle.std.proofs.lemmas.Bool.{cases_eq, cases_lt, cases_Bool, cond-true, cond-false, eq-eqb, ne_eqb, ltb-true, leb-true, le-leb, and_parts, and_from, false≢true}
use Rattle.std.proofs.lemmas.Option.{same_Some}
use Rattle.g4_classes.specs.Classes.{IsSymbol}
use Rattle.g4_classes.specs.Indices.{index_of, symbol_at}

-- the symbol of an index: EOF, the last symbol of a token list, or a token type
abbrev pub IsAt : ℕ → ℕ → Type 0
IsAt i a = ((i ≡ 4096) × (a ≡ 65536)) ⊎ ((i ≡ 4097) × (a ≡ 65537)) ⊎ ((i ≡ 4096 → ⊥) × (i ≡ 4097 → ⊥) × (a ≡ i + 1))

is_at : (i : ℕ) → IsAt i (symbol_at i)
is_at i = elim (cases_eq i 4096) [
  | inl last ↦ inl (last, cond-true (eqb i 4096) 65536 (cond (eqb i 4097) 65537 (i + 1)) (eq-eqb i 4096 last))
  | inr differs ↦ elim (cases_eq i 4097) [
    | inl last ↦ inr (inl (
      last,
      cond-false (eqb i 4096) 65536 (cond (eqb i 4097) 65537 (i + 1)) (ne_eqb i 4096 differs)
          ∙ cond-true (eqb i 4097) 65537 (i + 1) (eq-eqb i 4097 last),
    ))
    | inr not_last ↦ inr (inr (
      differs,
      not_last,
      cond-false (eqb i 4096) 65536 (cond (eqb i 4097) 65537 (i + 1)) (ne_eqb i 4096 differs)
          ∙ cond-false (eqb i 4097) 65537 (i + 1) (ne_eqb i 4097 not_last),
    ))
  ]
]

at_rises : (i j a b : ℕ) → IsAt i a → IsAt j b → i < j → j < 4098 → a < b
at_rises i j a b p q less within = grind arith

at_symbol : (i a : ℕ) → IsAt i a → i < 4098 → IsSymbol a
at_symbol i a (inl (_, is)) within = inr (inl is)
at_symbol i a (inr (inl (_, is))) within = inr (inr is)
at_symbol i a (inr (inr (differs, not_last, is))) within = inl (omega arith, omega arith)

at_type : (i a b : ℕ) → IsAt i b → a ≤ 4096 → i + 1 ≡ a → b ≡ a
at_type i a b p few is = grind arith

-- the symbols are in order
pub symbol_rises : (i j : ℕ) → i < j → j < 4098 → symbol_at i < symbol_at j
symbol_rises i j less within = at_rises i j (symbol_at i) (symbol_at j) (is_at i) (is_at j) less within

pub symbol_rises_or_same : (i j : ℕ) → i ≤ j → j < 4098 → symbol_at i ≤ symbol_at j
symbol_rises_or_same i j less within = elim (cases_eq i j) [
  | inl same ↦ (let e : symbol_at i ≡ symbol_at j = ap symbol_at same in omega (arith, e))
  | inr other ↦ (let l : symbol_at i < symbol_at j = symbol_rises i j (omega arith) within in omega (arith, l))
]

-- and no two indices have one symbol
pub one_index : (i j : ℕ) → i < 4098 → j < 4098 → symbol_at i ≡ symbol_at j → i ≡ j
one_index i j within within' same = elim (cases_eq i j) [
  | inl is ↦ is
  | inr other ↦ elim (cases_lt i j) [
    | inl less ↦ (let l : symbol_at i < symbol_at j = symbol_rises i j less within' in absurd (omega (arith, l, same)))
    | inr more ↦ (let l : symbol_at j < symbol_at i = symbol_rises j i (omega arith) within in absurd (omega (arith, l, same)))
  ]
]

pub is_symbol : (i : ℕ) → i < 4098 → IsSymbol (symbol_at i)
is_symbol i within = at_symbol i (symbol_at i) (is_at i) within

-- what is found of a number: it is a symbol with its index, or none
pub record IsFound (a i : ℕ) : Type 0 where
  pub is : index_of a ≡ Some i
  pub within : i < 4098
  pub there : symbol_at i ≡ a

pub record IsNoSymbol (a : ℕ) : Type 0 where
  pub is : index_of a ≡ None
  pub none : IsSymbol a → ⊥

-- the test for token types
is_type : (a : ℕ) → 1 ≤ a → a ≤ 4096 → (ltb 0 a && leb a 4096) ≡ true
is_type a one few = and_from (ltb 0 a) (leb a 4096) (le-leb 1 a one) (le-leb a 4096 few)

module _ (a : ℕ) where
  -- a number that is neither of the last two symbols
  index_is : (a ≡ 65536 → ⊥) → (a ≡ 65537 → ⊥) → (b : Bool) → (ltb 0 a && leb a 4096) ≡ b → index_of a ≡ cond b (Some (a - 1)) None
  index_is differs not_last b is =
      cond-false (eqb a 65536) (Some 4096) (cond (eqb a 65537) (Some 4097) (cond (ltb 0 a && leb a 4096) (Some (a - 1)) None))
      (ne_eqb a 65536 differs)
      ∙ cond-false (eqb a 65537) (Some 4097) (cond (ltb 0 a && leb a 4096) (Some (a - 1)) None) (ne_eqb a 65537 not_last)
      ∙ ap (λ (t : Bool). cond t (Some (a - 1)) None) is

  not_symbol : (a ≡ 65536 → ⊥) → (a ≡ 65537 → ⊥) → (ltb 0 a && leb a 4096) ≡ false → IsSymbol a → ⊥
  not_symbol differs not_last is (inl (one, few)) = false≢true (sym is ∙ is_type a one few)
  not_symbol differs not_last is (inr (inl e)) = differs e
  not_symbol differs not_last is (inr (inr e)) = not_last e

  -- each number is a symbol with an index, or no symbol
  pub found_or_not : ((i : ℕ) × IsFound a i) ⊎ IsNoSymbol a
  found_or_not = elim (cases_eq a 65536) [
    | inl e ↦ inl (
      4096,
      record {
        is = cond-true (eqb a 65536) (Some 4096)
            (cond (eqb a 65537) (Some 4097) (cond (ltb 0 a && leb a 4096) (Some (a - 1)) None)) (eq-eqb a 65536 e);
        within = omega arith;
        there = sym e;
      },
    )
    | inr differs ↦ elim (cases_eq a 65537) [
      | inl e ↦ inl (
        4097,
        record {
          is = cond-false (eqb a 65536) (Some 4096)
              (cond (eqb a 65537) (Some 4097) (cond (ltb 0 a && leb a 4096) (Some (a - 1)) None)) (ne_eqb a 65536 differs)
              ∙ cond-true (eqb a 65537) (Some 4097) (cond (ltb 0 a && leb a 4096) (Some (a - 1)) None) (eq-eqb a 65537 e);
          within = omega arith;
          there = sym e;
        },
      )
      | inr not_last ↦ elim (cases_Bool (ltb 0 a && leb a 4096)) [
        | inl t ↦ (
            let parts = and_parts (ltb 0 a) (leb a 4096) t in
            let one : 0 < a = ltb-true 0 a parts.0 in
            let few : a ≤ 4096 = leb-true a 4096 parts.1 in
            inl (
              a - 1,
              record {
                is = index_is differs not_last true t;
                within = omega (arith, few, one);
                there = at_type (a - 1) a (symbol_at (a - 1)) (is_at (a - 1)) few (omega (arith, one));
              },
            )
            )
        | inr f ↦ inr (record { is = index_is differs not_last false f; none = not_symbol differs not_last f })
      ]
    ]
  ]

  -- an index that is found is the symbol's
  pub found : (i : ℕ) → index_of a ≡ Some i → (i < 4098) × (symbol_at i ≡ a)
  found i is = elim found_or_not [
    | inl (j, f) ↦ (let e : j ≡ i = same_Some j i (sym f.is ∙ is) in
        subst (λ (k : ℕ). (k < 4098) × (symbol_at k ≡ a)) e (f.within, f.there))
    | inr none ↦ absurd (let differs : ⊥ = cc (none.is, is) in differs)
  ]
