-- The entries of items and wraps.
use Rattle.std.proofs.Common.{◌≡◌, ◌≢◌, ◌+◌, ◌<◌, ◌≤◌, ◌++◌, ◌∷◌, [], ℕ, suc, List, length, slice_set, Bool, true, false, ◌==◌, refl, sym, ◌∙◌, ap, subst, arith}
use Rattle.std.specs.Prelude.{slice_index_or}
use Rattle.std.proofs.lemmas.Bool.{false_from_ne_true}
use Rattle.std.proofs.lemmas.Bool.Decides.{nat_tests}
use Rattle.g4_trees.specs.declared.tree.Item.{Item}
use Rattle.g4_trees.specs.Kept.{Entry, kept, wrap, entries_from, AreOrdered}
use Rattle.g4_trees.specs.declared.builder.Wrap.{Wrap}

-- a number that is this one, and one that is not
pub same_number : (k : ℕ) → (k == k) ≡ true
same_number k = grind (arith, nat_tests)

pub other_number : (j k : ℕ) → j ≢ k → (j == k) ≡ false
other_number j k ne = false_from_ne_true (j == k) (λ e. ne (grind (arith, nat_tests)))

-- an item before the first wrap
pub kept_first : (k n : ℕ) (x : Item) (xs : List Item) (ws : List Wrap) → AreOrdered (suc k) ws n
    → entries_from k (x ∷ xs) ws ≡ kept x ∷ entries_from (suc k) xs ws
kept_first k n x xs [] h = refl
kept_first k n x xs (w ∷ ws) h = let other : (w.end == k) ≡ false = other_number w.end k (λ e. let low = h.0 in omega arith) in
    rw other refl

-- an item at the first wrap
pub wrap_first : (k : ℕ) (x : Item) (xs : List Item) (w : Wrap) (ws : List Wrap) → w.end ≡ k
    → entries_from k (x ∷ xs) (w ∷ ws) ≡ wrap w.alt ∷ entries_from (suc k) xs ws
wrap_first k x xs w ws e = let same : (w.end == k) ≡ true = ap (λ (j : ℕ). j == k) e ∙ same_number k in rw same refl

-- wraps that are in order from a place on are so from an earlier one, and below a later one
pub ordered_from : (j k n : ℕ) (ws : List Wrap) → j ≤ k → AreOrdered k ws n → AreOrdered j ws n
ordered_from j k n [] le h = tt
ordered_from j k n (w ∷ ws) le h = (let low = h.0 in omega arith, h.1, h.2)

pub ordered_below : (k n m : ℕ) (ws : List Wrap) → n ≤ m → AreOrdered k ws n → AreOrdered k ws m
ordered_below k n m [] le h = tt
ordered_below k n m (w ∷ ws) le h = (h.0, let high = h.1 in omega arith, ordered_below (suc w.end) n m ws le h.2)

-- one wrap more after all others
pub ordered_more : (k n m : ℕ) (ws : List Wrap) (w : Wrap) → AreOrdered k ws n → k ≤ n → n ≤ w.end → w.end < m
    → AreOrdered k (ws ++ w ∷ []) m
ordered_more k n m [] w h low at high = (omega arith, high, tt)
ordered_more k n m (v ∷ ws) w h low at high = (h.0, let below = h.1 in omega arith, ordered_more (suc v.end) n m ws w h.2 h.1 at high)

-- all but the last are before it
pub ordered_front : (k n : ℕ) (ws : List Wrap) (w : Wrap) → AreOrdered k (ws ++ w ∷ []) n
    → AreOrdered k ws w.end × (k ≤ w.end) × (w.end < n)
ordered_front k n [] w h = (tt, h.0, h.1)
ordered_front k n (v ∷ ws) w h =
    let rest = ordered_front (suc v.end) n ws w h.2 in
    ((h.0, let low = rest.1 in omega arith, rest.0), let low = rest.1 in let first = h.0 in omega arith, rest.2)

-- one item more
pub entries_kept : (k n : ℕ) (xs : List Item) (x : Item) (ws : List Wrap) → AreOrdered k ws n → n ≡ k + length xs
    → entries_from k (xs ++ x ∷ []) ws ≡ entries_from k xs ws ++ kept x ∷ []
entries_kept k n [] x [] h e = refl
entries_kept k n [] x (w ∷ ws) h e = absurd (let low = h.0 in let high = h.1 in omega arith)
entries_kept k n (y ∷ xs) x [] h e = ap (λ (es : List Entry). kept y ∷ es) (entries_kept (suc k) n xs x [] tt (omega arith))
entries_kept k n (y ∷ xs) x (w ∷ ws) h e = by_test (w.end == k) refl (λ o. entries_kept (suc k) n xs x ws o (omega arith))
    (λ o. entries_kept (suc k) n xs x (w ∷ ws) o (omega arith))
  where
    by_test : (b : Bool) → (w.end == k) ≡ b → (AreOrdered (suc k) ws n
        → entries_from (suc k) (xs ++ x ∷ []) ws ≡ entries_from (suc k) xs ws ++ kept x ∷ [])
        → (AreOrdered (suc k) (w ∷ ws) n → entries_from (suc k) (xs ++ x ∷ []) (w ∷ ws) ≡ entries_from (suc k) xs (w ∷ ws) ++ kept x ∷ []) →
        entries_from k ((y ∷ xs) ++ x ∷ []) (w ∷ ws) ≡ entries_from k (y ∷ xs) (w ∷ ws) ++ kept x ∷ []
    by_test true t here on =
        let place : w.end ≡ k = grind (arith, nat_tests) in
        rw t (ap (λ (es : List Entry). wrap w.alt ∷ es) (here (subst (λ (j : ℕ). AreOrdered (suc j) ws n) place h.2)))
    by_test false t here on =
        let place : w.end ≢ k = λ p. grind (arith, nat_tests) in
        rw t (ap (λ (es : List Entry). kept y ∷ es) (on (let low = h.0 in grind arith, h.1, h.2)))

-- one item more, at a wrap after all others
pub entries_wrap : (k n : ℕ) (xs : List Item) (x : Item) (ws : List Wrap) (w : Wrap) → AreOrdered k ws n → n ≡ k + length xs
    → w.end ≡ n → entries_from k (xs ++ x ∷ []) (ws ++ w ∷ []) ≡ entries_from k xs ws ++ wrap w.alt ∷ []
entries_wrap k n [] x [] w h e at = wrap_first k x [] w [] (omega arith)
entries_wrap k n [] x (v ∷ ws) w h e at = absurd (let low = h.0 in let high = h.1 in omega arith)
entries_wrap k n (y ∷ xs) x [] w h e at =
    let other : (w.end == k) ≡ false = other_number w.end k (λ p. omega arith) in
    rw other (ap (λ (es : List Entry). kept y ∷ es) (entries_wrap (suc k) n xs x [] w tt (omega arith) at))
entries_wrap k n (y ∷ xs) x (v ∷ ws) w h e at =
    by_test (v.end == k) refl (λ o. entries_wrap (suc k) n xs x ws w o (omega arith) at)
    (λ o. entries_wrap (suc k) n xs x (v ∷ ws) w o (omega arith) at)
  where
    by_test : (b : Bool) → (v.end == k) ≡ b → (AreOrdered (suc k) ws n
        → entries_from (suc k) (xs ++ x ∷ []) (ws ++ w ∷ []) ≡ entries_from (suc k) xs ws ++ wrap w.alt ∷ [])
        → (AreOrdered (suc k) (v ∷ ws) n → entries_from (suc k) (xs ++ x ∷ []) ((v ∷ ws) ++ w ∷ [])
        ≡ entries_from (suc k) xs (v ∷ ws) ++ wrap w.alt ∷ []) →
        entries_from k ((y ∷ xs) ++ x ∷ []) ((v ∷ ws) ++ w ∷ []) ≡ entries_from k (y ∷ xs) (v ∷ ws) ++ wrap w.alt ∷ []
    by_test true t here on =
        let place : v.end ≡ k = grind (arith, nat_tests) in
        rw t (ap (λ (es : List Entry). wrap v.alt ∷ es) (here (subst (λ (j : ℕ). AreOrdered (suc j) ws n) place h.2)))
    by_test false t here on =
        let place : v.end ≢ k = λ p. grind (arith, nat_tests) in
        rw t (ap (λ (es : List Entry). kept y ∷ es) (on (let low = h.0 in grind arith, h.1, h.2)))

-- The item at a place that is no wrap, and what the entries are with another item there.
abbrev IsSet : ℕ → List Item → List Wrap → List Entry → List Entry → Item → Item → Item → Type 0
IsSet k xs ws before after x y d = (slice_index_or xs (length before) d ≡ x)
    × (entries_from k (slice_set xs (length before) y) ws ≡ before ++ kept y ∷ after) × (length before < length xs)

-- another item at a place that is no wrap
pub entries_set : (k : ℕ) (xs : List Item) (ws : List Wrap) (before after : List Entry) (x y d : Item)
    → entries_from k xs ws ≡ before ++ kept x ∷ after → IsSet k xs ws before after x y d
entries_set k [] ws [] after x y d e = absurd (let n : ⊥ = cc in n)
entries_set k [] ws (b ∷ before) after x y d e = absurd (let n : ⊥ = cc in n)
entries_set k (z ∷ xs) [] [] after x y d e = let same : kept z ≡ kept x = cc in let rest : entries_from (suc k) xs [] ≡ after = cc in
    (cc, ap (λ (es : List Entry). kept y ∷ es) rest, omega arith)
entries_set k (z ∷ xs) [] (b ∷ before) after x y d e =
    let rest : entries_from (suc k) xs [] ≡ before ++ kept x ∷ after = cc in
    let more = entries_set (suc k) xs [] before after x y d rest in
    let first : kept z ≡ b = cc in (
      more.0,
      ap (λ (es : List Entry). kept z ∷ es) more.1 ∙ ap (λ (f : Entry). f ∷ (before ++ kept y ∷ after)) first,
      let less =
          more.2 in omega arith,
    )
entries_set k (z ∷ xs) (w ∷ ws) before after x y d e =
    by_test (w.end == k) refl before e (λ bs o. entries_set (suc k) xs ws bs after x y d o)
    (λ bs o. entries_set (suc k) xs (w ∷ ws) bs after x y d o)
  where
    by_test : (b : Bool) → (w.end == k) ≡ b → (front : List Entry) → entries_from k (z ∷ xs) (w ∷ ws) ≡ front ++ kept x ∷ after
        → ((bs : List Entry) → entries_from (suc k) xs ws ≡ bs ++ kept x ∷ after → IsSet (suc k) xs ws bs after x y d)
        → ((bs : List Entry) → entries_from (suc k) xs (w ∷ ws) ≡ bs ++ kept x ∷ after → IsSet (suc k) xs (w ∷ ws) bs after x y d) →
        IsSet k (z ∷ xs) (w ∷ ws) front after x y d
    by_test true t [] f here on =
        let g : wrap w.alt ∷ entries_from (suc k) xs ws ≡ kept x ∷ after = sym (wrap_first k z xs w ws (grind (arith, nat_tests))) ∙ f in
        absurd (let n : ⊥ = cc in n)
    by_test true t (b ∷ bs) f here on =
        let place : w.end ≡ k = grind (arith, nat_tests) in
        let g : wrap w.alt ∷ entries_from (suc k) xs ws ≡ b ∷ (bs ++ kept x ∷ after) = sym (wrap_first k z xs w ws place) ∙ f in
        let rest : entries_from (suc k) xs ws ≡ bs ++ kept x ∷ after = cc in
        let first : wrap w.alt ≡ b = cc in
        let more = here bs rest in (
          more.0,
          wrap_first k z (slice_set xs (length bs) y) w ws place ∙ ap (λ (es : List Entry). wrap w.alt ∷ es) more.1
              ∙ ap (λ (c : Entry). c ∷ (bs ++ kept y ∷ after)) first,
          let less = more.2 in omega arith,
        )
    by_test false t [] f here on =
        let g : kept z ∷ entries_from (suc k) xs (w ∷ ws) ≡ kept x ∷ after = sym (rw t refl) ∙ f in
        let same : kept z ≡ kept x = cc in
        let rest : entries_from (suc k) xs (w ∷ ws) ≡ after = cc in
        (cc, rw t (ap (λ (es : List Entry). kept y ∷ es) rest), omega arith)
    by_test false t (b ∷ bs) f here on =
        let g : kept z ∷ entries_from (suc k) xs (w ∷ ws) ≡ b ∷ (bs ++ kept x ∷ after) = sym (rw t refl) ∙ f in
        let rest : entries_from (suc k) xs (w ∷ ws) ≡ bs ++ kept x ∷ after = cc in
        let first : kept z ≡ b = cc in
        let more = on bs rest in (
          more.0,
          rw t (ap (λ (es : List Entry). kept z ∷ es) more.1 ∙ ap (λ (c : Entry). c ∷ (bs ++ kept y ∷ after)) first),
          let less = more.2 in omega arith,
        )
