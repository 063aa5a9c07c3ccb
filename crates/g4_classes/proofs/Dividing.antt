-- Symbols of a set move out of their blocks, one after another.
use Rattle.std.proofs.Common.{◌≡◌, ℕ, ◌<◌, ◌≤◌, inl, inr, List, [], ◌∷◌, ◌++◌, length, get_or, set, sym, ◌∙◌, ap, subst, arith, length-set, get_or-set_same, get_or-set_other}
use Rattle.std.specs.List.{Contains, All}
use Rattle.std.proofs.lemmas.Bool.{cases_eq, cases_lt}
use Rattle.std.proofs.lemmas.List.{get_or_default, get_or_read}
use Rattle.std.proofs.lemmas.List.Elements.{Contains-append_left, Contains-push, Contains-push_cases}
use Rattle.g4_classes.specs.Blocks.{AreLeast}
use Rattle.g4_classes.specs.Indices.{symbol_at}
use Rattle.g4_classes.specs.Partitions.{AreTogether, Divides, IsDividing, IsTarget}
use Rattle.g4_classes.proofs.Places.{one_index}

-- no symbol is in the empty list
Contains-nil : (x : ℕ) → Contains [] x → ⊥
Contains-nil x h = omega (arith, h.1)

-- the least members are members
pub least_within : (blocks least : List ℕ) (n : ℕ) → n ≡ length blocks → AreLeast blocks least → All (λ x. x < n) least
least_within blocks least n is l k d within =
    let count = l.count in
    let w = (l.each k (omega (arith, within, count))).within in
    let e : get_or least k d ≡ get_or least k 0 = get_or_default least k d 0 within in
    omega (arith, w, e, is)

module _ (seen old : List ℕ) (first_new symbol : ℕ) (blocks moved : List ℕ) (d : IsDividing seen old first_new blocks moved) where
  -- a number that is not the symbol of an index that could move
  pub passed_over : ((i : ℕ) → i < length old → get_or blocks i 0 < first_new → symbol ≡ symbol_at i → ⊥)
      → IsDividing (seen ++ symbol ∷ []) old first_new blocks moved
  passed_over other = record {
    count = d.count;
    room = d.room;
    are_old = d.are_old;
    kept = λ i within less. (
      (d.kept i within less).0,
      λ has. elim (Contains-push_cases seen symbol (symbol_at i) has) [
        | inl before ↦ (d.kept i within less).1 before
        | inr same ↦ other i within less same
      ],
    );
    gone = λ i within more. ((d.gone i within more).0, Contains-append_left seen (symbol ∷ []) (symbol_at i) (d.gone i within more).1);
    apart = d.apart;
  }

  -- a symbol that has moved before
  pub has_moved : (index block : ℕ) → length blocks ≡ 4098 → (index < 4098) × (symbol_at index ≡ symbol)
      → block ≡ get_or blocks index block → first_new ≤ block → IsDividing (seen ++ symbol ∷ []) old first_new blocks moved
  has_moved index block many at is more = passed_over (λ i within less same.
      let count = d.count in
      let e : i ≡ index = one_index i index (omega (arith, within, count, many)) at.0 (sym same ∙ sym at.1) in
      let value : get_or blocks i 0 ≡ get_or blocks index 0 = ap (λ (x : ℕ). get_or blocks x 0) e in
      let read : block ≡ get_or blocks index 0 = get_or_read blocks index block (omega (arith, at.0, many)) is 0 in
      omega (arith, value, read, less, more))

  module _ (index block target : ℕ) (then_moved : List ℕ) (many : length blocks ≡ 4098)
      (at : (index < 4098) × (symbol_at index ≡ symbol)) (read : block ≡ get_or blocks index block) (less : block < first_new)
      (t : IsTarget block first_new target moved then_moved) where
    all : length old ≡ 4098
    all = let count = d.count in omega (arith, count, many)

    within : index < length old
    within = omega (arith, all, at.0)

    is : block ≡ get_or blocks index 0
    is = get_or_read blocks index block (omega (arith, at.0, many)) read 0

    -- where members of a block have moved to stays
    stays : (b : ℕ) → b < first_new → first_new ≤ get_or moved b 0 → get_or then_moved b 0 ≡ get_or moved b 0
    stays b b_old more = elim (cases_eq b block) [
      | inl here ↦ (
          let known : first_new ≤ get_or moved block 0 = subst (λ (x : ℕ). first_new ≤ get_or moved x 0) here more in
          ap (λ (x : ℕ). get_or then_moved x 0) here ∙ t.here ∙ t.before known ∙ ap (λ (x : ℕ). get_or moved x 0) (sym here)
          )
      | inr there ↦ (let room = d.room in t.others b (omega (arith, b_old, room)) there)
    ]

    -- no other block's members have moved to the target
    alone : (c : ℕ) → c < first_new → (c ≡ block → ⊥) → get_or moved c 0 ≡ target → ⊥
    alone c c_old other same = elim (cases_lt (get_or moved block 0) first_new) [
      | inl unmoved ↦ (let room = d.room in t.fresh unmoved c (omega (arith, c_old, room)) same)
      | inr known ↦ other (sym (d.apart block c less c_old known (sym (t.before known) ∙ sym same)))
    ]

    still_apart : (b c : ℕ) → b < first_new → c < first_new → first_new ≤ get_or then_moved b 0
        → get_or then_moved b 0 ≡ get_or then_moved c 0 → b ≡ c
    still_apart b c b_old c_old more same = elim (cases_eq b block) [
      | inl b_is ↦ elim (cases_eq c block) [
        | inl c_is ↦ b_is ∙ sym c_is
        | inr c_not ↦ absurd (alone c c_old c_not (sym (other c c_old c_not) ∙ sym same ∙ ap (λ (x : ℕ). get_or then_moved x 0) b_is
            ∙ t.here))
      ]
      | inr b_not ↦ elim (cases_eq c block) [
        | inl c_is ↦ absurd (alone b b_old b_not (sym (other b b_old b_not) ∙ same ∙ ap (λ (x : ℕ). get_or then_moved x 0) c_is ∙ t.here))
        | inr c_not ↦ d.apart b c b_old c_old (subst (λ (x : ℕ). first_new ≤ x) (other b b_old b_not) more)
            (sym (other b b_old b_not) ∙ same ∙ other c c_old c_not)
      ]
    ]
      where
        other : (x : ℕ) → x < first_new → (x ≡ block → ⊥) → get_or then_moved x 0 ≡ get_or moved x 0
        other x x_old x_not = let room = d.room in t.others x (omega (arith, x_old, room)) x_not

    room_at : index < length blocks
    room_at = let count = d.count in omega (arith, count, within)

    here_is : get_or (set blocks index target) index 0 ≡ target
    here_is = get_or-set_same blocks index target 0 room_at

    there_is : (i : ℕ) → (i ≡ index → ⊥) → get_or (set blocks index target) i 0 ≡ get_or blocks i 0
    there_is i differs = get_or-set_other blocks index i target 0 differs

    -- the symbol moves to the target
    pub moves : IsDividing (seen ++ symbol ∷ []) old first_new (set blocks index target) then_moved
    moves = record {
      count = length-set blocks index target ∙ d.count;
      room = let r = d.room in let s = t.room in omega (arith, r, s);
      are_old = d.are_old;
      kept = λ i i_within i_less. elim (cases_eq i index) [
        | inl same ↦ (let value : get_or (set blocks index target) i 0 ≡ target =
            ap (λ (x : ℕ). get_or (set blocks index target) x 0) same ∙ here_is in let new = t.new in
            absurd (omega (arith, value, new, i_less)))
        | inr differs ↦ (
            let was = d.kept i i_within (subst (λ (x : ℕ). x < first_new) (there_is i differs) i_less) in (
              there_is i differs ∙ was.0,
              λ has. elim (Contains-push_cases seen symbol (symbol_at i) has) [
                | inl before ↦ was.1 before
                | inr same ↦ differs (one_index i index (omega (arith, i_within, all)) (omega (arith, within, all)) (sym same ∙ sym at.1))
              ],
            )
            )
      ];
      gone = λ i i_within i_more. elim (cases_eq i index) [
        | inl same ↦ (
            let old_is : get_or old index 0 ≡ block = sym (d.kept index within (subst (λ (x : ℕ). x < first_new) is less)).0 ∙ sym is in (
              ap (λ (x : ℕ). get_or (set blocks index target) x 0) same ∙ here_is ∙ sym t.here
                  ∙ ap (λ (x : ℕ). get_or then_moved x 0) (sym old_is) ∙ ap (λ (x : ℕ). get_or then_moved (get_or old x 0) 0) (sym same),
              subst (Contains (seen ++ symbol ∷ [])) (sym at.1 ∙ ap symbol_at (sym same)) (Contains-push seen symbol),
            )
            )
        | inr differs ↦ (
            let more : first_new ≤ get_or blocks i 0 = subst (λ (x : ℕ). first_new ≤ x) (there_is i differs) i_more in
            let was = d.gone i i_within more in (
              there_is i differs ∙ was.0 ∙ sym (stays (get_or old i 0) (d.are_old i i_within)
                  (subst (λ (x : ℕ). first_new ≤ x) was.0 more)),
              Contains-append_left seen (symbol ∷ []) (symbol_at i) was.1,
            )
            )
      ];
      apart = still_apart;
    }

module _ (set' old : List ℕ) (first_new : ℕ) (blocks moved : List ℕ) (d : IsDividing set' old first_new blocks moved) where
  parted : (i j : ℕ) → i < length old → j < length old → get_or blocks i 0 ≡ get_or blocks j 0
      → (get_or old i 0 ≡ get_or old j 0) × AreTogether set' i j
  parted i j i_within j_within same = elim (cases_lt (get_or blocks i 0) first_new) [
    | inl i_less ↦ (
        let one = d.kept i i_within i_less in
        let two = d.kept j j_within (subst (λ (x : ℕ). x < first_new) same i_less) in
        (sym one.0 ∙ same ∙ two.0, (λ has. absurd (one.1 has), λ has. absurd (two.1 has)))
        )
    | inr i_more ↦ (
        let one = d.gone i i_within i_more in
        let two = d.gone j j_within (subst (λ (x : ℕ). first_new ≤ x) same i_more) in (
          d.apart (get_or old i 0) (get_or old j 0) (d.are_old i i_within) (d.are_old j j_within)
              (subst (λ (x : ℕ). first_new ≤ x) one.0 i_more) (sym one.0 ∙ same ∙ two.0),
          (λ has. two.1, λ has. one.1),
        )
        )
  ]

  joined : (i j : ℕ) → i < length old → j < length old → get_or old i 0 ≡ get_or old j 0 → AreTogether set' i j
      → get_or blocks i 0 ≡ get_or blocks j 0
  joined i j i_within j_within same together = elim (cases_lt (get_or blocks i 0) first_new) [
    | inl i_less ↦ (
        let one = d.kept i i_within i_less in
        elim (cases_lt (get_or blocks j 0) first_new) [
          | inl j_less ↦ one.0 ∙ same ∙ sym (d.kept j j_within j_less).0
          | inr j_more ↦ absurd (one.1 (together.1 (d.gone j j_within j_more).1))
        ]
        )
    | inr i_more ↦ (
        let one = d.gone i i_within i_more in
        elim (cases_lt (get_or blocks j 0) first_new) [
          | inl j_less ↦ absurd ((d.kept j j_within j_less).1 (together.0 one.1))
          | inr j_more ↦ one.0 ∙ ap (λ (x : ℕ). get_or moved x 0) same ∙ sym (d.gone j j_within j_more).0
        ]
        )
  ]

  -- at last each block is divided
  pub divided : Divides set' old blocks
  divided = record {
    count = d.count;
    exactly =
        λ i j i_within j_within. (parted i j i_within j_within, λ h. joined i j i_within j_within h.0 h.1);
  }

-- no number is in the empty set
together_in_none : (i j : ℕ) → AreTogether [] i j
together_in_none i j = (λ has. absurd (Contains-nil (symbol_at i) has), λ has. absurd (Contains-nil (symbol_at j) has))

-- blocks that are numbered anew by their least members
pub renumbered : (blocks least : List ℕ) → AreLeast blocks least → Divides [] blocks least
renumbered blocks least l = record {
  count = l.count;
  exactly = λ i j i_within j_within. (
    λ same. (sym (l.each i i_within).same ∙ ap (λ (x : ℕ). get_or blocks x 0) same ∙ (l.each j j_within).same, together_in_none i j),
    λ h. (
        let one = l.each i i_within in
        let two = l.each j j_within in
        let low : get_or least i 0 ≤ get_or least j 0 = one.first (get_or least j 0) (omega arith) two.within (two.same ∙ sym h.0) in
        let high : get_or least j 0 ≤ get_or least i 0 = two.first (get_or least i 0) (omega arith) one.within (one.same ∙ h.0) in
        omega (arith, low, high)
        ),
  );
}

-- blocks that are numbered anew, and then divided
pub divided_then : (set' old mid new : List ℕ) → Divides [] old mid → Divides set' mid new → Divides set' old new
divided_then set' old mid new a b = record {
  count = b.count ∙ a.count;
  exactly = λ i j i_within j_within. (
      let count = a.count in
      let i_mid : i < length mid = omega (arith, i_within, count) in
      let j_mid : j < length mid = omega (arith, j_within, count) in (
        λ same. (let h = (b.exactly i j i_mid j_mid).0 same in (((a.exactly i j i_within j_within).0 h.0).0, h.1)),
        λ h. (b.exactly i j i_mid j_mid).1 ((a.exactly i j i_within j_within).1 (h.0, together_in_none i j), h.1),
      )
      );
}
