-- The edges of rows, listed by the words of their cells.
use Rattle.std.proofs.Common.{◌≡◌, ◌≢◌, ◌⊎◌, ℕ, zero, suc, ◌+◌, ◌*◌, ◌<◌, ◌≤◌, Bool, true, false, cond, inl, inr, List, [], ◌∷◌, ◌++◌, length, get_or, take, drop, count_by, not, ap, arith, ne_eqb, refl, subst, sym, ◌∙◌}
use mathlib.Core.Option.{some}
use lib.ListN.{get_elem?}
use Rattle.std.proofs.lemmas.List.{get_or-drop, get_or-take, get_or_past, length-append, length-drop, length-take}
use Rattle.std.proofs.lemmas.List.Sums.{sum_by-append, sum_by-take-drop}
use Rattle.g4_store.specs.Numbers.{Among}
use Rattle.g4_store.proofs.Lists.{among_either, among_left, among_right}
use Rattle.g4_tally.specs.Counts.{is_filled}
use Rattle.g4_tally.proofs.Sizes.{Apart, apart_append, at_is_among}

-- a word is filled or holds 0
pub filled_or_not : (w : ℕ) → ((w ≡ 0) × (is_filled w ≡ false)) ⊎ ((w ≢ 0) × (is_filled w ≡ true))
filled_or_not zero = inl (refl, refl)
filled_or_not (suc w) = let past : suc w ≢ 0 = λ none. omega (arith, none) in inr (past, ap not (ne_eqb (suc w) 0 past))

-- how many words are filled with one more before them
count_more : (w : ℕ) (ws : List ℕ) (b : Bool) → is_filled w ≡ b → count_by is_filled (w ∷ ws) ≡ cond b 1 0 + count_by is_filled ws
count_more w ws b is =
    sum_by-append (λ (x : ℕ). cond (is_filled x) 1 0) (w ∷ []) ws
    ∙ let one : count_by is_filled (w ∷ []) ≡ cond b 1 0 = omega (arith, ap {B = ℕ} (λ (x : Bool). cond x 1 0) is) in
    ap (λ (n : ℕ). n + count_by is_filled ws) one

none_filled : (ws : List ℕ) → ((k : ℕ) → k < length ws → get_or ws k 0 ≡ 0) → count_by is_filled ws ≡ 0
none_filled [] none = refl
none_filled (w ∷ ws) none =
    let rest = none_filled ws (λ k within. none (suc k) (omega arith)) in
    let empty : is_filled w ≡ false = ap is_filled (none zero (omega arith)) in
    omega (arith, count_more w ws false empty, rest)

module _ {C : Type 0} where
  -- the edges of a row from column s on, by the words of these columns
  abbrev row_edges : C → ℕ → List ℕ → List (C × ℕ)
  row_edges x s [] = []
  row_edges x s (w ∷ ws) = cond (is_filled w) ((x, s) ∷ row_edges x (suc s) ws) (row_edges x (suc s) ws)

  -- the edges of rows, each with so many columns, by their words
  abbrev pub edges : List C → ℕ → List ℕ → List (C × ℕ)
  edges [] columns ws = []
  edges (x ∷ xs) columns ws = row_edges x 0 (take columns ws) ++ edges xs columns (drop columns ws)

  -- what holds of a row's edges, by whether the first word is filled
  by_first : (P : List (C × ℕ) → Type 0) (x : C) (s w : ℕ) (ws : List ℕ) → (w ≡ 0 → P (row_edges x (suc s) ws))
      → (w ≢ 0 → P ((x, s) ∷ row_edges x (suc s) ws)) → P (row_edges x s (w ∷ ws))
  by_first P x s w ws empty filled = elim (filled_or_not w) [
    | inl h ↦ subst (λ (b : Bool). P (cond b ((x, s) ∷ row_edges x (suc s) ws) (row_edges x (suc s) ws))) (sym h.1) (empty h.0)
    | inr h ↦ subst (λ (b : Bool). P (cond b ((x, s) ∷ row_edges x (suc s) ws) (row_edges x (suc s) ws))) (sym h.1) (filled h.0)
  ]

  -- ---- how many there are

  length_row : (x : C) (s : ℕ) (ws : List ℕ) → length (row_edges x s ws) ≡ count_by is_filled ws
  length_row x s [] = refl
  length_row x s (w ∷ ws) =
      let rest = length_row x (suc s) ws in
      elim (filled_or_not w) [
        | inl h ↦
            let same : length (row_edges x s (w ∷ ws)) ≡ length (row_edges x (suc s) ws) =
            ap (λ (b : Bool). length (cond b ((x, s) ∷ row_edges x (suc s) ws) (row_edges x (suc s) ws))) h.1 in
            omega (arith, same, rest, count_more w ws false h.1)
        | inr h ↦
            let same : length (row_edges x s (w ∷ ws)) ≡ suc (length (row_edges x (suc s) ws)) =
            ap (λ (b : Bool). length (cond b ((x, s) ∷ row_edges x (suc s) ws) (row_edges x (suc s) ws))) h.1 in
            omega (arith, same, rest, count_more w ws true h.1)
      ]

  -- there are as many as filled words, where those past the rows hold 0
  pub length_edges : (xs : List C) (columns : ℕ) (ws : List ℕ)
      → ((k : ℕ) → length xs * columns ≤ k → k < length ws → get_or ws k 0 ≡ 0)
      → length (edges xs columns ws) ≡ count_by is_filled ws
  length_edges [] columns ws none = sym (none_filled ws (λ k within. none k (omega arith) within))
  length_edges (x ∷ xs) columns ws none =
      let rest = length_edges xs columns (drop columns ws) later in
      omega (
        arith,
        rest,
        length-append (row_edges x 0 (take columns ws)) (edges xs columns (drop columns ws)),
        length_row x 0 (take columns ws),
        sum_by-take-drop (λ (w : ℕ). cond (is_filled w) 1 0) ws columns,
      )
    where
      later : (k : ℕ) → length xs * columns ≤ k → k < length (drop columns ws) → get_or (drop columns ws) k 0 ≡ 0
      later k past within =
          get_or-drop columns ws k 0 ∙ none (columns + k) (omega (arith, past)) (omega (arith, within, length-drop columns ws))

  -- ---- which they are

  -- an edge of a row has its content, and a column whose word is filled
  abbrev IsIn : C → ℕ → List ℕ → C → ℕ → Type 0
  IsIn x s ws y t = (y ≡ x) × ((k : ℕ) × ((k < length ws) × ((t ≡ s + k) × (get_or ws k 0 ≢ 0))))

  one_later : (x y : C) (s t w : ℕ) (ws : List ℕ) → IsIn x (suc s) ws y t → IsIn x s (w ∷ ws) y t
  one_later x y s t w ws found =
      (found.0, (suc found.1.0, (omega (arith, found.1.1.0), (omega (arith, found.1.1.1.0), found.1.1.1.1))))

  first_in : (x y : C) (s t w : ℕ) (ws : List ℕ) (list : List (C × ℕ)) → w ≢ 0 → (Among (y, t) list → IsIn x (suc s) ws y t)
      → Among (y, t) ((x, s) ∷ list) → IsIn x s (w ∷ ws) y t
  first_in x y s t w ws list held rest (inl is) =
      (ap (λ (edge : C × ℕ). edge.0) is, (zero, (omega arith, (omega (arith, ap (λ (edge : C × ℕ). edge.1) is), held))))
  first_in x y s t w ws list held rest (inr among) = one_later x y s t w ws (rest among)

  among_row : (x y : C) (s t : ℕ) (ws : List ℕ) → Among (y, t) (row_edges x s ws) → IsIn x s ws y t
  among_row x y s t [] among = absurd among
  among_row x y s t (w ∷ ws) among =
      by_first (λ list. Among (y, t) list → IsIn x s (w ∷ ws) y t) x s w ws
      (λ none later. one_later x y s t w ws (among_row x y (suc s) t ws later))
      (λ held. first_in x y s t w ws (row_edges x (suc s) ws) held (among_row x y (suc s) t ws)) among

  -- a column whose word is filled is an edge of the row
  to_row : (x : C) (s k : ℕ) (ws : List ℕ) → get_or ws k 0 ≢ 0 → Among (x, s + k) (row_edges x s ws)
  to_row x s k [] held = absurd (held (get_or_past [] k 0 (omega arith)))
  to_row x s zero (w ∷ ws) held =
      by_first (Among (x, s + 0)) x s w ws (λ none. absurd (held none)) (λ _. inl (ap (λ (t : ℕ). (x, t)) (omega arith)))
  to_row x s (suc k) (w ∷ ws) held =
      let there : Among (x, s + suc k) (row_edges x (suc s) ws) =
      subst (λ (t : ℕ). Among (x, t) (row_edges x (suc s) ws)) (omega arith) (to_row x (suc s) k ws held) in
      by_first (Among (x, s + suc k)) x s w ws (λ none. there) (λ _. inr there)

  -- an edge of rows has the content of one of them, and a column whose word of this row is filled
  abbrev pub IsInRows : List C → ℕ → List ℕ → C → ℕ → Type 0
  IsInRows xs columns ws y t = (r : ℕ) × ((get_elem? xs r ≡ some y) × ((t < columns) × (get_or ws (r * columns + t) 0 ≢ 0)))

  in_first : (x y : C) (xs : List C) (columns t : ℕ) (ws : List ℕ) → IsIn x 0 (take columns ws) y t → IsInRows (x ∷ xs) columns ws y t
  in_first x y xs columns t ws found =
      let k = found.1.0 in
      let within : k < columns = omega (arith, found.1.1.0, length-take columns ws) in
      let there : get_or (take columns ws) k 0 ≡ get_or ws (0 * columns + t) 0 =
      get_or-take columns ws k 0 within ∙ ap (λ (n : ℕ). get_or ws n 0) {x = k} {y = 0 * columns + t} (omega (arith, found.1.1.1.0)) in
      (zero, (ap some (sym found.0), (omega (arith, within, found.1.1.1.0), λ none. found.1.1.1.1 (there ∙ none))))

  in_later : (x y : C) (xs : List C) (columns t : ℕ) (ws : List ℕ) → IsInRows xs columns (drop columns ws) y t
      → IsInRows (x ∷ xs) columns ws y t
  in_later x y xs columns t ws found =
      let r = found.0 in
      let there : get_or (drop columns ws) (r * columns + t) 0 ≡ get_or ws (suc r * columns + t) 0 =
      get_or-drop columns ws (r * columns + t) 0
      ∙ ap (λ (n : ℕ). get_or ws n 0) {x = columns + (r * columns + t)} {y = suc r * columns + t} (omega arith) in
      (suc r, (found.1.0, (found.1.1.0, λ none. found.1.1.1 (there ∙ none))))

  pub among_edges : (xs : List C) (columns : ℕ) (ws : List ℕ) (y : C) (t : ℕ) → Among (y, t) (edges xs columns ws)
      → IsInRows xs columns ws y t
  among_edges [] columns ws y t among = absurd among
  among_edges (x ∷ xs) columns ws y t among =
      elim (among_either (y, t) (row_edges x 0 (take columns ws)) (edges xs columns (drop columns ws)) among) [
        | inl h ↦ in_first x y xs columns t ws (among_row x y 0 t (take columns ws) h)
        | inr h ↦ in_later x y xs columns t ws (among_edges xs columns (drop columns ws) y t h)
      ]

  -- a column of a row whose word is filled is an edge
  pub to_edges : (xs : List C) (columns : ℕ) (ws : List ℕ) (r t : ℕ) (y : C) → get_elem? xs r ≡ some y → t < columns
      → get_or ws (r * columns + t) 0 ≢ 0 → Among (y, t) (edges xs columns ws)
  to_edges [] columns ws r t y at within held = cc
  to_edges (x ∷ xs) columns ws zero t y at within held =
      let same : x ≡ y = cc in
      let there : get_or (take columns ws) t 0 ≡ get_or ws (0 * columns + t) 0 =
      get_or-take columns ws t 0 within ∙ ap (λ (n : ℕ). get_or ws n 0) {x = t} {y = 0 * columns + t} (omega arith) in
      among_left (y, t) (row_edges x 0 (take columns ws)) (edges xs columns (drop columns ws))
      (subst (λ (z : C). Among (z, t) (row_edges x 0 (take columns ws))) same
      (subst (λ (n : ℕ). Among (x, n) (row_edges x 0 (take columns ws))) (omega arith)
      (to_row x 0 t (take columns ws) (λ none. held (sym there ∙ none)))))
  to_edges (x ∷ xs) columns ws (suc r) t y at within held =
      let there : get_or (drop columns ws) (r * columns + t) 0 ≡ get_or ws (suc r * columns + t) 0 =
      get_or-drop columns ws (r * columns + t) 0
      ∙ ap (λ (n : ℕ). get_or ws n 0) {x = columns + (r * columns + t)} {y = suc r * columns + t} (omega arith) in
      among_right (y, t) (row_edges x 0 (take columns ws)) (edges xs columns (drop columns ws))
      (to_edges xs columns (drop columns ws) r t y at within (λ none. held (sym there ∙ none)))

  -- ---- none is there twice

  apart_row : (x : C) (s : ℕ) (ws : List ℕ) → Apart (row_edges x s ws)
  apart_row x s [] = tt
  apart_row x s (w ∷ ws) =
      let twice : Among (x, s) (row_edges x (suc s) ws) → ⊥ = λ among.
      let found = among_row x x (suc s) s ws among in omega (arith, found.1.1.1.0) in
      by_first Apart x s w ws (λ none. apart_row x (suc s) ws) (λ _. (twice, apart_row x (suc s) ws))

  pub apart_edges : (xs : List C) (columns : ℕ) (ws : List ℕ) → Apart xs → Apart (edges xs columns ws)
  apart_edges [] columns ws apart = tt
  apart_edges (x ∷ xs) columns ws apart =
      apart_append (row_edges x 0 (take columns ws)) (edges xs columns (drop columns ws)) (apart_row x 0 (take columns ws))
      (apart_edges xs columns (drop columns ws) apart.1) both
    where
      both : (edge : C × ℕ) → Among edge (row_edges x 0 (take columns ws)) → Among edge (edges xs columns (drop columns ws)) → ⊥
      both edge one other =
          let mine = among_row x edge.0 0 edge.1 (take columns ws) one in
          let its = among_edges xs columns (drop columns ws) edge.0 edge.1 other in
          apart.0 (subst (λ (y : C). Among y xs) mine.0 (at_is_among xs its.0 edge.0 its.1.0))
