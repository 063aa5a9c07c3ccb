-- Where the words lie, and what one word can name.
use Rattle.std.proofs.Common.{◌≡◌, ◌≢◌, ℕ, suc, ◌+◌, ◌*◌, ◌<◌, ◌≤◌, List, [], ◌∷◌, ◌++◌, length, sym, ap, ◌∙◌, arith, suc-mul, mul-le-mul_right}
use native.Mathlib.Decide.{dec_le}
use mathlib.Core.Option.{some-injective}
use lib.ListN.{get_elem?}
use Rattle.atomic_table.proofs.Lists.{at_longer}
use Rattle.g4_store.specs.declared.automaton.Led.{Led}
use Rattle.g4_store.specs.declared.automaton.Led.TheVariants.{Row, End}
use Rattle.g4_store.specs.declared.automaton.Plan.{Plan}
use Rattle.g4_store.specs.Words.{cell_at, row_word, Names}
use Rattle.g4_store.proofs.Lists.{in_range}

-- a cell of an earlier row lies before those of a later row
before : (n r q s t : ℕ) → s < n → r < q → r * n + s < q * n + t
before n r q s t lt h = let a : suc r * n ≤ q * n = mul-le-mul_right n h in omega (arith, suc-mul r n)

pub same_cell : (n r q s t : ℕ) → s < n → t < n → r * n + s ≡ q * n + t → (r ≡ q) × (s ≡ t)
same_cell n r q s t ls lt e = go (dec_le r q) (dec_le q r)
  where
    go : Dec (r ≤ q) → Dec (q ≤ r) → (r ≡ q) × (s ≡ t)
    go (yes a) (yes b) = let same : r ≡ q = omega arith in (same, (let f : r * n ≡ q * n = ap (λ (k : ℕ). k * n) same in omega arith))
    go (no a) d = absurd (let h : q < r = omega arith in let f = before n q r t s lt h in omega arith)
    go (yes a) (no b) = absurd (let h : r < q = omega arith in let f = before n r q s t ls h in omega arith)

module _ {N : Type 0} where
  pub below_starts : (p : Plan N) (r s : ℕ) → r < p.rows → s < p.columns → cell_at p r s < p.rows + p.rows * p.columns
  below_starts p r s lr ls = let f = before p.columns r p.rows s 0 ls lr in omega arith

pub row_one : (t m u n : ℕ) → t < 65536 → u < 65536 → row_word t m ≡ row_word u n → (t ≡ u) × (m ≡ n)
row_one t m u n lt lu e = let same : m ≡ n = omega arith in ((omega arith), same)

module _ {C : Type 0} where
  pub names_one : (rows : List C) (a b : Led C) (w : ℕ) → length rows ≤ 65536 → Names rows a w → Names rows b w → a ≡ b
  names_one rows (Row y m) (Row z n) w few (t, ta, tw) (u, ua, uw) =
      let lt = in_range rows t y ta in
      let lu = in_range rows u z ua in
      let one = row_one t m u n (omega arith) (omega arith) (sym tw ∙ uw) in
      let same : y ≡ z = some-injective _ _ (sym ta ∙ ap (λ (k : ℕ). get_elem? rows k) one.0 ∙ ua) in
      λ i. Row (same i) (one.1 i)
  names_one rows (Row y m) (End d) w few (t, ta, tw) e = absurd (omega arith)
  names_one rows (End c) (Row z n) w few e (u, ua, uw) = absurd (omega arith)
  names_one rows (End c) (End d) w few e f = let same : c ≡ d = omega arith in ap End same

  pub names_full : (rows : List C) (a : Led C) (w : ℕ) → Names rows a w → w ≢ 0
  names_full rows (Row y m) w (t, ta, tw) z = omega arith
  names_full rows (End c) w e z = omega arith

  pub names_longer : (rows : List C) (x : C) (a : Led C) (w : ℕ) → Names rows a w → Names (rows ++ x ∷ []) a w
  names_longer rows x (Row y m) w (t, ta, tw) = (t, at_longer rows (x ∷ []) t y ta, tw)
  names_longer rows x (End c) w e = e
