-- Ranks of least members, and the columns that they are.
use Rattle.std.proofs.Common.{◌≡◌, ◌↔◌, ◌⊎◌, ℕ, zero, suc, ◌+◌, ◌<◌, ◌≤◌, inl, inr, List, [], ◌∷◌, ◌++◌, All, length, get_or, Some, refl, sym, ◌∙◌, ap, subst, arith, length-append}
use Rattle.std.proofs.lemmas.Bool.{cases_eq, cases_lt}
use Rattle.g4_net.specs.Network.{ParserNetwork}
use Rattle.g4_classes.specs.Blocks.{AreLeast}
use Rattle.g4_classes.specs.Classes.{IsSymbol, AreAlike, IsClassOf}
use Rattle.g4_classes.specs.Columns.{AreColumnsOf, AreRanks, column_by, column_in}
use Rattle.g4_classes.specs.Indices.{index_of, symbol_at}
use Rattle.g4_classes.specs.Partitions.{IsPartition}
use Rattle.g4_classes.proofs.Naming.{alike_from, alike_in, class_at, one_class}
use Rattle.g4_classes.proofs.Places.{found_or_not, is_symbol, one_index, symbol_rises}

front : (xs ys : List ℕ) (j : ℕ) → j < length xs → get_or (xs ++ ys) j 0 ≡ get_or xs j 0
front [] ys j less = absurd (omega arith)
front (x ∷ xs) ys zero less = refl
front (x ∷ xs) ys (suc j) less = front xs ys j (omega arith)

last : (xs : List ℕ) (x : ℕ) → get_or (xs ++ x ∷ []) (length xs) 0 ≡ x
last [] x = refl
last (y ∷ ys) x = last ys x

module _ (blocks least : List ℕ) (l : AreLeast blocks least) where
  -- a least member is not after the member, and is its own
  low : (i : ℕ) → i < length least → get_or least i 0 ≤ i
  low i within = let count = l.count in (l.each i (omega (arith, within, count))).first i (omega arith) (omega (arith, within, count)) refl

  own : (i : ℕ) → i < length least → get_or least (get_or least i 0) 0 ≡ get_or least i 0
  own i within =
      let count = l.count in
      let is = l.each i (omega (arith, within, count)) in
      let least_within = is.within in
      let again = l.each (get_or least i 0) least_within in
      let least_again = again.within in
      let one = again.first (get_or least i 0) (omega arith) least_within refl in
      let other = is.first (get_or least (get_or least i 0) 0) (omega arith) least_again (again.same ∙ is.same) in
      omega (arith, one, other)

  -- what is next ranked, where its least member came before
  module _ (k : ℕ) (ranks : List ℕ) (count first : ℕ) (within : k < length least) (is : get_or least k 0 ≡ first)
      (r : AreRanks k least ranks count) where
    -- the member that was ranked before and stands for this one
    stands : first < k → (i : ℕ) → i < k + 1 → (j : ℕ) × (j < k)
        × (get_or (ranks ++ get_or ranks first 0 ∷ []) i 0 ≡ get_or ranks j 0) × (get_or least i 0 ≡ get_or least j 0)
    stands before i less = elim (cases_lt i k) [
      | inl earlier ↦ (i, earlier, front ranks (get_or ranks first 0 ∷ []) i (let n = r.length_is in omega (arith, earlier, n)), refl)
      | inr not ↦ (
          let at : i ≡ k = omega (arith, less, not) in (
            first,
            before,
            ap (λ (n : ℕ). get_or (ranks ++ get_or ranks first 0 ∷ []) n 0) (at ∙ sym r.length_is)
                ∙ last ranks (get_or ranks first 0),
            ap (λ (n : ℕ). get_or least n 0) at ∙ is
                ∙ sym (ap (λ (n : ℕ). get_or least n 0) (sym is) ∙ own k within ∙ is),
          )
          )
    ]

    known_more : first < k → AreRanks (k + 1) least (ranks ++ get_or ranks first 0 ∷ []) count
    known_more before = record {
      length_is = length-append ranks (get_or ranks first 0 ∷ []) ∙ ap (λ (n : ℕ). n + 1) r.length_is;
      same = λ i j i_less j_less.
          let a = stands before i i_less in
          let b = stands before j j_less in
          let s = r.same a.0 b.0 a.1 b.1 in
          ((λ e. a.3 ∙ s.0 (sym a.2 ∙ e ∙ b.2) ∙ sym b.3), (λ e. a.2 ∙ s.1 (sym a.3 ∙ e ∙ b.3) ∙ sym b.2));
      order = λ i j i_less j_less less.
          let a = stands before i i_less in
          let b = stands before j j_less in
          let ai = a.2 in
          let bi = b.2 in
          let al = a.3 in
          let bl = b.3 in
          let o = r.order a.0 b.0 a.1 b.1 (omega (arith, less, al, bl)) in
          omega (arith, o, ai, bi);
      within = λ i less. let a = stands before i less in let ai = a.2 in let w = r.within a.0 a.1 in omega (arith, ai, w);
      each = λ rank less. let e = r.each rank less in (
        e.0,
        (let b = e.1 in omega (arith, b)),
        front ranks (get_or ranks first 0 ∷ []) e.0
            (let b = e.1 in let n = r.length_is in omega (arith, b, n)) ∙ e.2,
      );
    }

    -- and where it is its own least member
    fresh_at : first ≡ k → (i : ℕ) → i < k + 1 → ((i < k) × (get_or (ranks ++ count ∷ []) i 0 ≡ get_or ranks i 0)
        × (get_or least i 0 < k)) ⊎ ((i ≡ k) × (get_or (ranks ++ count ∷ []) i 0 ≡ count) × (get_or least i 0 ≡ k))
    fresh_at at i less = elim (cases_lt i k) [
      | inl earlier ↦ inl (
        earlier,
        front ranks (count ∷ []) i (let n = r.length_is in omega (arith, earlier, n)),
        (let a = low i (omega (arith, within, earlier)) in omega (arith, a, earlier)),
      )
      | inr not ↦ (
          let same : i ≡ k = omega (arith, less, not) in
          inr (
            same,
            ap (λ (n : ℕ). get_or (ranks ++ count ∷ []) n 0) (same ∙ sym r.length_is) ∙ last ranks count,
            ap (λ (n : ℕ). get_or least n 0) same ∙ is ∙ at,
          )
          )
    ]

    fresh_same : (i j : ℕ) → (at : first ≡ k) → i < k + 1 → j < k + 1
        → (get_or (ranks ++ count ∷ []) i 0 ≡ get_or (ranks ++ count ∷ []) j 0) ↔ (get_or least i 0 ≡ get_or least j 0)
    fresh_same i j at i_less j_less = elim (fresh_at at i i_less) [
      | inl a ↦ elim (fresh_at at j j_less) [
        | inl b ↦ (let s = r.same i j a.0 b.0 in ((λ e. s.0 (sym a.1 ∙ e ∙ b.1)), (λ e. a.1 ∙ s.1 e ∙ sym b.1)))
        | inr b ↦ (let w = r.within i a.0 in let p = a.1 in let q = b.1 in let x = a.2 in let y = b.2 in
            ((λ e. absurd (omega (arith, w, p, q, e))), (λ e. absurd (omega (arith, x, y, e)))))
      ]
      | inr a ↦ elim (fresh_at at j j_less) [
        | inl b ↦ (let w = r.within j b.0 in let p = a.1 in let q = b.1 in let x = a.2 in let y = b.2 in
            ((λ e. absurd (omega (arith, w, p, q, e))), (λ e. absurd (omega (arith, x, y, e)))))
        | inr b ↦ ((λ e. a.2 ∙ sym b.2), (λ e. a.1 ∙ sym b.1))
      ]
    ]

    fresh_order : (i j : ℕ) → (at : first ≡ k) → i < k + 1 → j < k + 1 → get_or least i 0 < get_or least j 0
        → get_or (ranks ++ count ∷ []) i 0 < get_or (ranks ++ count ∷ []) j 0
    fresh_order i j at i_less j_less less = elim (fresh_at at i i_less) [
      | inl a ↦ elim (fresh_at at j j_less) [
        | inl b ↦ (let o = r.order i j a.0 b.0 less in let p = a.1 in let q = b.1 in omega (arith, o, p, q))
        | inr b ↦ (let w = r.within i a.0 in let p = a.1 in let q = b.1 in omega (arith, w, p, q))
      ]
      | inr a ↦ elim (fresh_at at j j_less) [
        | inl b ↦ (let x = a.2 in let y = b.2 in absurd (omega (arith, x, y, less)))
        | inr b ↦ (let x = a.2 in let y = b.2 in absurd (omega (arith, x, y, less)))
      ]
    ]

    fresh_more : first ≡ k → AreRanks (k + 1) least (ranks ++ count ∷ []) (count + 1)
    fresh_more at = record {
      length_is = length-append ranks (count ∷ []) ∙ ap (λ (n : ℕ). n + 1) r.length_is;
      same = λ i j i_less j_less. fresh_same i j at i_less j_less;
      order = λ i j i_less j_less less. fresh_order i j at i_less j_less less;
      within = λ i less. elim (fresh_at at i less) [
        | inl a ↦ (let w = r.within i a.0 in let p = a.1 in omega (arith, w, p))
        | inr a ↦ (let p = a.1 in omega (arith, p))
      ];
      each = λ rank less. elim (cases_lt rank count) [
        | inl earlier ↦ (let e = r.each rank earlier in (
          e.0,
          (let b = e.1 in omega (arith, b)),
          front ranks (count ∷ []) e.0 (let b = e.1 in let n = r.length_is in omega (arith, b, n)) ∙ e.2,
        ))
        | inr not ↦ (let same : count ≡ rank = omega (arith, less, not) in
            (k, (omega arith), ap (λ (n : ℕ). get_or (ranks ++ count ∷ []) n 0) (sym r.length_is) ∙ last ranks count ∙ same))
      ];
    }

    -- the next rank
    pub ranks_more : (rank more : ℕ) (now : List ℕ) → now ≡ ranks ++ rank ∷ []
        → (first < k → (rank ≡ get_or ranks first 0) × (more ≡ count)) → ((first < k → ⊥) → (rank ≡ count) × (more ≡ count + 1))
        → AreRanks (k + 1) least now more
    ranks_more rank more now is_now before after = elim (cases_lt first k) [
      | inl less ↦ (let b = before less in subst (λ (q : List ℕ × ℕ). AreRanks (k + 1) least q.0 q.1)
          (λ i. (sym (is_now ∙ ap (λ (x : ℕ). ranks ++ x ∷ []) b.0) i, sym b.1 i)) (known_more less))
      | inr not ↦ (
          let a = after (λ less. omega (arith, less, not)) in
          let lower = low k within in
          subst (λ (q : List ℕ × ℕ). AreRanks (k + 1) least q.0 q.1)
          (λ i. (sym (is_now ∙ ap (λ (x : ℕ). ranks ++ x ∷ []) a.0) i, sym a.1 i)) (fresh_more (omega (arith, not, lower, is)))
          )
    ]

pub no_ranks : (least : List ℕ) → AreRanks 0 least [] 0
no_ranks least = record {
  length_is = refl;
  same = λ i j i_less j_less. absurd (omega arith);
  order = λ i j i_less j_less less. absurd (omega arith);
  within = λ i less. absurd (omega arith);
  each = λ rank less. absurd (omega arith);
}

-- within a list it does not matter what is taken past its end
any : (xs : List ℕ) (i d e : ℕ) → i < length xs → get_or xs i d ≡ get_or xs i e
any [] i d e less = absurd (omega arith)
any (x ∷ xs) zero d e less = refl
any (x ∷ xs) (suc i) d e less = any xs i d e (omega arith)

pub ranks_fit : (least ranks : List ℕ) (count : ℕ) → AreRanks 4098 least ranks count
    → (length ranks ≡ 4098) × (0 < count) × All (λ rank. rank < count) ranks
ranks_fit least ranks count r =
    let first = r.within 0 (omega arith) in (
      r.length_is,
      omega (arith, first),
      λ i d less. let n = r.length_is in let w = r.within i (omega (arith, less, n)) in let e = any ranks i d 0 less in omega (arith, w, e),
    )

module _ (net : ParserNetwork) (blocks least columns : List ℕ) (count : ℕ) (all : length blocks ≡ 4098)
    (p : IsPartition net.states blocks) (l : AreLeast blocks least) (r : AreRanks 4098 least columns count) where
  -- a symbol has an index, at which its column is
  record Placed (a : ℕ) : Type 0 where
    index : ℕ
    within : index < 4098
    there : symbol_at index ≡ a
    column : column_in columns a ≡ get_or columns index 0

  placed : (a : ℕ) → IsSymbol a → Placed a
  placed a symbol = elim (found_or_not a) [
    | inl (i, f) ↦ record { index = i; within = f.within; there = f.there; column = ap (column_by columns) f.is }
    | inr none ↦ absurd (none.none symbol)
  ]

  -- members have one least member where they are in one block
  one_least : (i j : ℕ) → i < 4098 → j < 4098 → (get_or least i 0 ≡ get_or least j 0) ↔ (get_or blocks i 0 ≡ get_or blocks j 0)
  one_least i j i_less j_less =
      let a = l.each i (omega (arith, all, i_less)) in
      let b = l.each j (omega (arith, all, j_less)) in (
        (λ e. sym a.same ∙ ap (λ (n : ℕ). get_or blocks n 0) e ∙ b.same),
        λ e.
            let x = a.first (get_or least j 0) (omega arith) b.within (b.same ∙ sym e) in
            let y = b.first (get_or least i 0) (omega arith) a.within (a.same ∙ e) in
            omega (arith, x, y),
      )

  class_is : (a c : ℕ) (q : Placed a) → IsClassOf net a c → c ≡ symbol_at (get_or least q.index 0)
  class_is a c q is = one_class net a c (symbol_at (get_or least q.index 0)) is
      (subst (λ (x : ℕ). IsClassOf net x (symbol_at (get_or least q.index 0))) q.there (class_at net blocks least all p l q.index q.within))

  -- lesser symbols have lesser indices
  falls : (i j : ℕ) → i < 4098 → symbol_at i < symbol_at j → i < j
  falls i j within less = elim (cases_lt i j) [
    | inl is ↦ is
    | inr not ↦ elim (cases_eq i j) [
      | inl same ↦ (let e : symbol_at i ≡ symbol_at j = ap symbol_at same in absurd (omega (arith, e, less)))
      | inr differs ↦ (let m = symbol_rises j i (omega arith) within in absurd (omega (arith, m, less)))
    ]
  ]

  pub are_columns : AreColumnsOf net (column_in columns) count
  are_columns = record {
    same = λ a b a_symbol b_symbol.
        let x = placed a a_symbol in
        let y = placed b b_symbol in
        let s = r.same x.index y.index x.within y.within in
        let o = one_least x.index y.index x.within y.within in
        let h = p x.index y.index (omega (arith, all, x.within)) (omega (arith, all, y.within)) in (
          (λ e. subst (λ (q : ℕ × ℕ). AreAlike net q.0 q.1) (λ i. (x.there i, y.there i))
              (alike_from net x.index y.index (h.0 (o.0 (s.0 (sym x.column ∙ e ∙ y.column)))))),
          (λ e. x.column ∙ s.1 (o.1 (h.1 (alike_in net x.index y.index
              (subst (λ (q : ℕ × ℕ). AreAlike net q.0 q.1) (λ i. (sym x.there i, sym y.there i)) e)))) ∙ sym y.column),
        );
    order = λ a b c d a_symbol b_symbol a_class b_class less.
        let x = placed a a_symbol in
        let y = placed b b_symbol in
        let c_is = class_is a c x a_class in
        let d_is = class_is b d y b_class in
        let i = l.each x.index (omega (arith, all, x.within)) in
        let i_in = i.within in
        let o = r.order x.index y.index x.within y.within
        (falls (get_or least x.index 0) (get_or least y.index 0) (omega (arith, all, i_in)) (omega (arith, c_is, d_is, less))) in
        let xc = x.column in
        let yc = y.column in
        omega (arith, o, xc, yc);
    within = λ a symbol. let x = placed a symbol in let w = r.within x.index x.within in let xc = x.column in omega (arith, w, xc);
    each = λ column less.
        let e = r.each column less in
        let symbol = is_symbol e.0 e.1 in
        let x = placed (symbol_at e.0) symbol in
        (symbol_at e.0, symbol, x.column ∙ ap (λ (n : ℕ). get_or columns n 0) (one_index x.index e.0 x.within e.1 x.there) ∙ e.2);
  }
