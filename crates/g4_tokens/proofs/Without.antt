-- Sets that are made of the symbols that another set leaves.
use Rattle.std.proofs.Common.{◌≡◌, ℕ, zero, suc, ◌+◌, ◌-◌, ◌<◌, ◌≤◌, List, [], ◌∷◌, ◌++◌, Bool, true, false, cond, not, refl, sym, ap, ◌∙◌, subst, append_assoc, arith}
use Rattle.std.specs.BTreeSet.{BTreeSet, contains}
use Rattle.std.specs.Ordering.{nat_cmp}
use Rattle.std.specs.List.{range_with_len}
use Rattle.std.proofs.lemmas.Grind.{flat_map-append}
use Rattle.std.proofs.lemmas.List.{append-nil}
use Rattle.std.proofs.lemmas.List.Elements.{filter-append}
use Rattle.g4_tokens.specs.declared.set.Range.{Range}
use Rattle.g4_tokens.specs.Members.{IsApart, members, range_members, left_over}

-- a range of these ends
abbrev pub span : ℕ → ℕ → Range
span a b = record { first = a; last = b }

-- one more number
range_more : (a n : ℕ) → range_with_len a (n + 1) ≡ range_with_len a n ++ (a + n) ∷ []
range_more a zero = let e : a ≡ a + 0 = omega arith in ap (λ (x : ℕ). x ∷ []) e
range_more a (suc n) =
    let e : a + 1 + n ≡ a + suc n = omega arith in
    let l : suc n + 1 ≡ suc (n + 1) = omega arith in
    ap (range_with_len a) l ∙ ap (λ (xs : List ℕ). a ∷ xs) (range_more (a + 1) n ∙ ap (λ (x : ℕ). range_with_len (a + 1) n ++ x ∷ []) e)

-- the front of ranges that are apart
apart_front : (rs : List Range) (r : Range) → IsApart (rs ++ r ∷ []) → IsApart rs
apart_front [] r h = tt
apart_front (s ∷ []) r h = h.0
apart_front (s ∷ t ∷ more) r h = (h.0, h.1, apart_front (t ∷ more) r h.2)

-- another last range that begins no earlier
apart_other : (rs : List Range) (a b c d : ℕ) → IsApart (rs ++ span a b ∷ []) → a ≤ c → c ≤ d → IsApart (rs ++ span c d ∷ [])
apart_other [] a b c d h low up = up
apart_other (s ∷ []) a b c d h low up = (h.0, omega (arith, h.1), up)
apart_other (s ∷ t ∷ more) a b c d h low up = (h.0, h.1, apart_other (t ∷ more) a b c d h.2 low up)

-- one more range
apart_more : (rs : List Range) (a b c d : ℕ) → IsApart (rs ++ span a b ∷ []) → b + 1 < c → c ≤ d
    → IsApart ((rs ++ span a b ∷ []) ++ span c d ∷ [])
apart_more [] a b c d h low up = (h, low, up)
apart_more (s ∷ []) a b c d h low up = (h.0, h.1, (h.2, low, up))
apart_more (s ∷ t ∷ more) a b c d h low up = (h.0, h.1, apart_more (t ∷ more) a b c d h.2 low up)

-- the members with one more range
members_more : (rs : List Range) (a b : ℕ) → members (rs ++ span a b ∷ []) ≡ members rs ++ range_with_len a (b + 1 - a)
members_more rs a b = flat_map-append range_members rs (span a b ∷ [])
    ∙ ap (λ (xs : List ℕ). members rs ++ xs) (append-nil (range_members (span a b)))

-- What is known of the symbols before one: the ranges and the symbols from the first on are those that the set leaves.
pub record IsLeft (set : BTreeSet ℕ) (rs : List Range) (first symbol : ℕ) : Type 0 where
  pub some : 1 ≤ first
  pub order : first ≤ symbol
  pub apart : IsApart (rs ++ span first first ∷ [])
  pub left : members rs ++ range_with_len first (symbol - first) ≡ left_over set (range_with_len 1 (symbol - 1))

-- at the beginning
pub left_none : (set : BTreeSet ℕ) (rs : List Range) → rs ≡ [] → IsLeft set rs 1 1
left_none set rs e = rw e (record { some = omega arith; order = omega arith; apart = omega arith; left = refl })

module _ (set : BTreeSet ℕ) (rs : List Range) (first symbol : ℕ) (h : IsLeft set rs first symbol) where
  -- what the set leaves of one symbol more
  left_more : (b : Bool) → contains nat_cmp set symbol ≡ b
      → left_over set (range_with_len 1 symbol) ≡ left_over set (range_with_len 1 (symbol - 1)) ++ cond (not b) (symbol ∷ []) []
  left_more b is =
      let n : symbol ≡ symbol - 1 + 1 = omega (arith, h.some, h.order) in
      let m : 1 + (symbol - 1) ≡ symbol = omega (arith, h.some, h.order) in
      ap (λ (k : ℕ). left_over set (range_with_len 1 k)) n
      ∙ (ap (left_over set) (range_more 1 (symbol - 1) ∙ ap (λ (x : ℕ). range_with_len 1 (symbol - 1) ++ x ∷ []) m)
      ∙ (filter-append (λ (s : ℕ). not (contains nat_cmp set s)) (range_with_len 1 (symbol - 1)) (symbol ∷ [])
      ∙ ap (λ (c : Bool). left_over set (range_with_len 1 (symbol - 1)) ++ cond (not c) (symbol ∷ []) []) is))

  -- the symbol is left
  pub left_in : contains nat_cmp set symbol ≡ false → IsLeft set rs first (symbol + 1)
  left_in is =
      let n : symbol + 1 - first ≡ symbol - first + 1 = omega (arith, h.order) in
      let m : first + (symbol - first) ≡ symbol = omega (arith, h.order) in
      let k : symbol + 1 - 1 ≡ symbol = omega arith in
      let e : members rs ++ range_with_len first (symbol + 1 - first) ≡ left_over set (range_with_len 1 (symbol + 1 - 1)) =
      ap (λ (j : ℕ). members rs ++ range_with_len first j) n
      ∙ (ap (λ (xs : List ℕ). members rs ++ xs) (range_more first (symbol - first)
      ∙ ap (λ (x : ℕ). range_with_len first (symbol - first) ++ x ∷ []) m)
      ∙ (sym (append_assoc (members rs) (range_with_len first (symbol - first)) (symbol ∷ []))
      ∙ (ap (λ (xs : List ℕ). xs ++ symbol ∷ []) h.left
      ∙ (sym (left_more false is) ∙ ap (λ (j : ℕ). left_over set (range_with_len 1 j)) (sym k))))) in
      record { some = h.some; order = omega (arith, h.order); apart = h.apart; left = e }

  -- the symbol is left out, and those before it end a range
  pub left_out : (new : List Range) → contains nat_cmp set symbol ≡ true → first < symbol → new ≡ rs ++ span first (symbol - 1) ∷ []
      → IsLeft set new (symbol + 1) (symbol + 1)
  left_out new is less e =
      let n : symbol + 1 - (symbol + 1) ≡ 0 = omega arith in
      let k : symbol + 1 - 1 ≡ symbol = omega arith in
      let m : symbol - 1 + 1 - first ≡ symbol - first = omega (arith, less) in
      let P : List Range → Type 0 = λ (xs : List Range). IsLeft set xs (symbol + 1) (symbol + 1) in
      subst P (sym e)
      (record {
        some = omega arith;
        order = omega arith;
        apart = apart_more rs first (symbol - 1) (symbol + 1) (symbol + 1)
            (apart_other rs first first first (symbol - 1) h.apart (omega arith) (omega (arith, less))) (omega (arith, less)) (omega arith);
        left =
            ap (λ (j : ℕ). members (rs ++ span first (symbol - 1) ∷ []) ++ range_with_len (symbol + 1) j) n
            ∙ (append-nil (members (rs ++ span first (symbol - 1) ∷ []))
            ∙ (members_more rs first (symbol - 1) ∙ (ap (λ (j : ℕ). members rs ++ range_with_len first j) m
            ∙ (h.left ∙ (sym (append-nil (left_over set (range_with_len 1 (symbol - 1))))
            ∙ (sym (left_more true is) ∙ ap (λ (j : ℕ). left_over set (range_with_len 1 j)) (sym k)))))));
      })

  -- the symbol is left out, and so is the one before it
  pub left_next : contains nat_cmp set symbol ≡ true → symbol ≤ first → IsLeft set rs (symbol + 1) (symbol + 1)
  left_next is more =
      let n : symbol + 1 - (symbol + 1) ≡ 0 = omega arith in
      let m : symbol - first ≡ 0 = omega (arith, more) in
      let k : symbol + 1 - 1 ≡ symbol = omega arith in
      record {
        some = omega arith;
        order = omega arith;
        apart = apart_other rs first first (symbol + 1) (symbol + 1) h.apart (omega (arith, h.order)) (omega arith);
        left =
            ap (λ (j : ℕ). members rs ++ range_with_len (symbol + 1) j) n ∙ (ap (λ (j : ℕ). members rs ++ range_with_len first j) (sym m)
            ∙ (h.left ∙ (sym (append-nil (left_over set (range_with_len 1 (symbol - 1))))
            ∙ (sym (left_more true is) ∙ ap (λ (j : ℕ). left_over set (range_with_len 1 j)) (sym k)))));
      }

  -- the ranges before the end are apart
  pub ended_apart : IsApart rs
  ended_apart = apart_front rs (span first first) h.apart

  -- and so they are with the last one
  pub last_apart : (new : List Range) (greatest : ℕ) → first ≤ greatest → new ≡ rs ++ span first greatest ∷ [] → IsApart new
  last_apart new greatest le e = subst IsApart (sym e) (apart_other rs first first first greatest h.apart (omega arith) le)

  -- at the end no symbol is left after the ranges
  pub ended_left : (greatest : ℕ) → symbol ≡ greatest + 1 → greatest < first → members rs ≡ left_over set (range_with_len 1 greatest)
  ended_left greatest end less =
      let n : symbol - first ≡ 0 = omega (arith, end, less) in
      let m : symbol - 1 ≡ greatest = omega (arith, end) in
      sym (append-nil (members rs)) ∙ (ap (λ (j : ℕ). members rs ++ range_with_len first j) (sym n)
      ∙ (h.left ∙ ap (λ (j : ℕ). left_over set (range_with_len 1 j)) m))

  -- or the last range has them
  pub last_left : (new : List Range) (greatest : ℕ) → symbol ≡ greatest + 1 → new ≡ rs ++ span first greatest ∷ []
      → members new ≡ left_over set (range_with_len 1 greatest)
  last_left new greatest end e =
      let n : greatest + 1 - first ≡ symbol - first = omega (arith, end) in
      let m : symbol - 1 ≡ greatest = omega (arith, end) in
      ap members e ∙ (members_more rs first greatest
      ∙ (ap (λ (j : ℕ). members rs ++ range_with_len first j) n ∙ (h.left ∙ ap (λ (j : ℕ). left_over set (range_with_len 1 j)) m)))
