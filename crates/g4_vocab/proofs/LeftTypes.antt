-- Which numbers are types.
use Rattle.std.proofs.Common.{◌≡◌, ℕ, zero, suc, ◌+◌, ◌-◌, ◌<◌, ◌≤◌, ◌==◌, inl, inr, List, [], ◌∷◌, ◌++◌, length, take, get_or, Bool, true, false, ◌||◌, ◌&&◌, cond, not, filter, refl, sym, ap, ◌∙◌, arith}
use Rattle.std.specs.BTreeSet.{BTreeSet, contains, Updates}
use Rattle.std.specs.Cmp.{Equal-is, nat_cmp_is}
use Rattle.std.specs.declared.cmp.Ordering.TheVariants.{Equal}
use Rattle.std.specs.List.{list_any, range_with_len}
use Rattle.std.specs.Ordering.{is_eq, nat_cmp}
use Rattle.std.proofs.lemmas.Bool.{cases_lt}
use Rattle.std.proofs.lemmas.Bool.Decides.{Decides-eqb}
use Rattle.std.proofs.lemmas.List.{take_more}
use Rattle.std.proofs.lemmas.List.Elements.{filter-append}
use Rattle.std.proofs.lemmas.List.Folds.{list_any-append}
use Rattle.std.proofs.lemmas.Map.Lookups.{exact_unsigned}
use Rattle.g4_token_file.specs.Keys.{greatest_number}
use Rattle.g4_token_file.specs.declared.entry.TokenEntry.{TokenEntry}
use Rattle.g4_vocab.specs.Types.{all_types, gaps_of, is_type}

-- one number more
pub range_more : (a n : ℕ) → range_with_len a (n + 1) ≡ range_with_len a n ++ (a + n) ∷ []
range_more a zero = let e : a ≡ a + 0 = omega arith in ap (λ (x : ℕ). x ∷ []) e
range_more a (suc n) =
    let e : a + 1 + n ≡ a + suc n = omega arith in
    let l : suc n + 1 ≡ suc (n + 1) = omega arith in
    ap (range_with_len a) l ∙ ap (λ (xs : List ℕ). a ∷ xs) (range_more (a + 1) n ∙ ap (λ (x : ℕ). range_with_len (a + 1) n ++ x ∷ []) e)

-- numbers compare as equal where they are
pub equal_numbers : (a b : ℕ) → is_eq (nat_cmp a b) ≡ (a == b)
equal_numbers a b = by (is_eq (nat_cmp a b)) (a == b) refl refl
  where
    by : (x y : Bool) → is_eq (nat_cmp a b) ≡ x → (a == b) ≡ y → x ≡ y
    by true true p q = refl
    by false false p q = refl
    by true false p q =
        let same : a ≡ b = exact_unsigned a b ((Equal-is (nat_cmp a b)).0 p) in
        let other : (a == b) ≡ true = (Decides-eqb a b).1 same in cc
    by false true p q =
        let same : a ≡ b = (Decides-eqb a b).0 q in
        let here : is_eq (nat_cmp a a) ≡ true = itself a in
        let moved : is_eq (nat_cmp a b) ≡ true = ap (λ (c : ℕ). is_eq (nat_cmp a c)) (sym same) ∙ here in cc
      where
        itself : (c : ℕ) → is_eq (nat_cmp c c) ≡ true
        itself c = ap is_eq (sym (nat_cmp_is c c Equal refl))

-- the numbers up to one more that fail a test
pub fails_more : (test : ℕ → Bool) (n : ℕ) (b : Bool) → 1 ≤ n → test n ≡ b
    → filter (λ k. not (test k)) (range_with_len 1 (n - 1)) ++ cond b [] (n ∷ [])
    ≡ filter (λ k. not (test k)) (range_with_len 1 (n + 1 - 1))
fails_more test n b some is =
    let fails : ℕ → Bool = λ (k : ℕ). not (test k) in
    let m : n - 1 + 1 ≡ n + 1 - 1 = omega (arith, some) in
    let at : 1 + (n - 1) ≡ n = omega (arith, some) in
    sym (ap (λ (k : ℕ). filter fails (range_with_len 1 k)) (sym m)
    ∙ (ap (filter fails) (range_more 1 (n - 1) ∙ ap (λ (k : ℕ). range_with_len 1 (n - 1) ++ k ∷ []) at)
    ∙ (filter-append fails (range_with_len 1 (n - 1)) (n ∷ [])
    ∙ (ap (λ (c : Bool). filter fails (range_with_len 1 (n - 1)) ++ cond (not c) (n ∷ []) []) is ∙ turned b))))
  where
    turned : (c : Bool) → filter (λ k. not (test k)) (range_with_len 1 (n - 1)) ++ cond (not c) (n ∷ []) []
        ≡ filter (λ k. not (test k)) (range_with_len 1 (n - 1)) ++ cond c [] (n ∷ [])
    turned true = refl
    turned false = refl

-- filters that agree on the numbers of a range
agree : (p q : ℕ → Bool) (a n : ℕ) → ((k : ℕ) → a ≤ k → k < a + n → p k ≡ q k)
    → filter p (range_with_len a n) ≡ filter q (range_with_len a n)
agree p q a zero h = refl
agree p q a (suc n) h =
    let rest : filter p (range_with_len (a + 1) n) ≡ filter q (range_with_len (a + 1) n) =
    agree p q (a + 1) n (λ k low less. h k (omega (arith, low)) (omega (arith, less))) in
    ap (λ (b : Bool). cond b (a ∷ filter p (range_with_len (a + 1) n)) (filter p (range_with_len (a + 1) n)))
    (h a (omega arith) (omega arith))
    ∙ ap (λ (zs : List ℕ). cond (q a) (a ∷ zs) zs) rest

-- two filters, one after the other
filter_both : {X : Type 0} (p q : X → Bool) (xs : List X) → filter (λ x. q x && p x) xs ≡ filter p (filter q xs)
filter_both p q [] = refl
filter_both {X} p q (x ∷ xs) = by (q x) (filter_both p q xs)
  where
    by : (b : Bool) → filter (λ y. q y && p y) xs ≡ filter p (filter q xs)
        → cond (b && p x) (x ∷ filter (λ y. q y && p y) xs) (filter (λ y. q y && p y) xs)
        ≡ filter p (cond b (x ∷ filter q xs) (filter q xs))
    by true rest = ap (λ (zs : List X). cond (p x) (x ∷ zs) zs) rest
    by false rest = rest

-- a filter that all pass
pub filter_all : {X : Type 0} (p : X → Bool) → ((x : X) → p x ≡ true) → (xs : List X) → filter p xs ≡ xs
filter_all p all [] = refl
filter_all {X} p all (x ∷ xs) = ap (λ (b : Bool). cond b (x ∷ filter p xs) (filter p xs)) (all x)
    ∙ ap (λ (zs : List X). x ∷ zs) (filter_all p all xs)

-- filters by tests that agree
pub filter_same : {X : Type 0} (p q : X → Bool) → ((x : X) → p x ≡ q x) → (xs : List X) → filter p xs ≡ filter q xs
filter_same p q all [] = refl
filter_same {X} p q all (x ∷ xs) = ap (λ (b : Bool). cond b (x ∷ filter p xs) (filter p xs)) (all x)
    ∙ ap (λ (zs : List X). cond (q x) (x ∷ zs) zs) (filter_same p q all xs)

-- no number before a range is among its numbers
none_before : (p : ℕ → Bool) (k a n : ℕ) → k < a → list_any (λ m. m == k) (filter p (range_with_len a n)) ≡ false
none_before p k a zero less = refl
none_before p k a (suc n) less = by (p a) (a == k) refl (none_before p k (a + 1) n (omega (arith, less)))
  where
    by : (b c : Bool) → (a == k) ≡ c → list_any (λ m. m == k) (filter p (range_with_len (a + 1) n)) ≡ false
        → list_any (λ m. m == k) (cond b (a ∷ filter p (range_with_len (a + 1) n)) (filter p (range_with_len (a + 1) n))) ≡ false
    by true true e rest = let same : a ≡ k = (Decides-eqb a k).0 e in absurd (omega (arith, same, less))
    by true false e rest = ap (λ (d : Bool). d || list_any (λ m. m == k) (filter p (range_with_len (a + 1) n))) e ∙ rest
    by false c e rest = rest

-- a number of a range is among those that pass where it passes
among : (p : ℕ → Bool) (k a n : ℕ) → a ≤ k → k < a + n → list_any (λ m. m == k) (filter p (range_with_len a n)) ≡ p k
among p k a zero low less = absurd (omega (arith, low, less))
among p k a (suc n) low less = by (a == k) refl (λ from. among p k (a + 1) n from (omega (arith, less)))
  where
    tail : List ℕ
    tail = filter p (range_with_len (a + 1) n)

    here : (b : Bool) → p a ≡ b → (a == k) ≡ true → a ≡ k → list_any (λ m. m == k) (cond b (a ∷ tail) tail) ≡ b
    here true is e same = ap (λ (d : Bool). d || list_any (λ m. m == k) tail) e
    here false is e same = none_before p k (a + 1) n (omega (arith, same))

    there : (b : Bool) → (a == k) ≡ false → list_any (λ m. m == k) tail ≡ p k → list_any (λ m. m == k) (cond b (a ∷ tail) tail) ≡ p k
    there true e rest = ap (λ (d : Bool). d || list_any (λ m. m == k) tail) e ∙ rest
    there false e rest = rest

    by : (b : Bool) → (a == k) ≡ b → (a + 1 ≤ k → list_any (λ m. m == k) tail ≡ p k)
        → list_any (λ m. m == k) (cond (p a) (a ∷ tail) tail) ≡ p k
    by true e rest = let same : a ≡ k = (Decides-eqb a k).0 e in here (p a) refl e same ∙ ap p same
    by false e rest =
        let other : a ≡ k → ⊥ = λ same. let equal : (a == k) ≡ true = (Decides-eqb a k).1 same in let n : ⊥ = cc in n in
        there (p a) e (rest (later other))
      where
        later : (a ≡ k → ⊥) → a + 1 ≤ k
        later apart = elim (cases_lt a k) [ inl before ↦ omega (arith, before) | inr from ↦ absurd (apart (omega (arith, low, from))) ]

-- the symbols that are left out with one gap more
pub left_more : (symbols old new : BTreeSet ℕ) (gaps : List ℕ) (i : ℕ) → i < length gaps
    → Updates nat_cmp old new (get_or gaps i 0) true
    → ((n : ℕ) → contains nat_cmp old n ≡ (contains nat_cmp symbols n || list_any (λ m. m == n) (take i gaps))) →
    (n : ℕ) → contains nat_cmp new n ≡ (contains nat_cmp symbols n || list_any (λ m. m == n) (take (i + 1) gaps))
left_more symbols old new gaps i within updates h n =
    let gap : ℕ = get_or gaps i 0 in
    let next : take (i + 1) gaps ≡ take i gaps ++ gap ∷ [] = take_more gaps i 0 within in
    updates.0 n
    ∙ (ap (λ (b : Bool). cond b true (contains nat_cmp old n)) (equal_numbers gap n)
    ∙ (ap (λ (b : Bool). cond (gap == n) true b) (h n)
    ∙ (swap (gap == n) (contains nat_cmp symbols n) (list_any (λ m. m == n) (take i gaps))
    ∙ (ap (λ (b : Bool). contains nat_cmp symbols n || b) (sym (list_any-append (λ (m : ℕ). m == n) (take i gaps) (gap ∷ [])))
    ∙ ap (λ (gs : List ℕ). contains nat_cmp symbols n || list_any (λ m. m == n) gs) (sym next)))))
  where
    swap : (a b c : Bool) → cond a true (b || c) ≡ (b || (c || (a || false)))
    swap true true c = refl
    swap true false true = refl
    swap true false false = refl
    swap false true c = refl
    swap false false true = refl
    swap false false false = refl

-- before the first gap
pub left_none : (symbols : BTreeSet ℕ) (n : ℕ) → contains nat_cmp symbols n ≡ (contains nat_cmp symbols n || false)
left_none symbols n = by (contains nat_cmp symbols n)
  where
    by : (b : Bool) → b ≡ (b || false)
    by true = refl
    by false = refl

-- what is neither a symbol nor no type
not_either : (s t : Bool) → not (s || not t) ≡ (t && not s)
not_either true true = refl
not_either true false = refl
not_either false true = refl
not_either false false = refl

-- the types that are no symbols, from the symbols and the gaps that are left out
pub types_left : (table : List TokenEntry) (symbols out : BTreeSet ℕ)
    → ((n : ℕ) → contains nat_cmp out n ≡ (contains nat_cmp symbols n || list_any (λ m. m == n) (gaps_of table))) →
    filter (λ n. not (contains nat_cmp out n)) (range_with_len 1 (greatest_number table))
    ≡ filter (λ n. not (contains nat_cmp symbols n)) (all_types table)
types_left table symbols out left =
    let most : ℕ = greatest_number table in
    agree (λ n. not (contains nat_cmp out n)) (λ n. is_type table n && not (contains nat_cmp symbols n)) 1 most
    (λ k low less. ap not
    (left k ∙ ap (λ (b : Bool). contains nat_cmp symbols k || b) (among (λ n. not (is_type table n)) k 1 most low less))
    ∙ not_either (contains nat_cmp symbols k) (is_type table k))
    ∙ filter_both (λ n. not (contains nat_cmp symbols n)) (is_type table) (range_with_len 1 most)
