-- Names that are looked up in a set.
use Rattle.std.proofs.Common.{◌≡◌, ℕ, List, [], ◌∷◌, map, Bool, true, false, cond, ◌||◌, refl, sym, ap, ◌∙◌}
use Rattle.std.specs.Borrow.{Bor}
use Rattle.std.specs.BTreeSet.{BTreeSet, contains, contains_by, Updates}
use Rattle.std.specs.declared.cmp.Ordering.{Ordering}
use Rattle.std.specs.Cmp.Lexicographic.{slice_cmp}
use Rattle.std.specs.Ordering.{nat_cmp, is_eq}
use Rattle.std.specs.List.{list_any}
use Rattle.std.specs.Str.{bytes_eq}
use Rattle.std.proofs.lemmas.Map.Text.{is_eq-slice_cmp}
use Rattle.std.proofs.lemmas.Slice.Eq.{bytes_eq-Decides}
use Rattle.g4_checks.specs.Names.{is_one_of}

-- the names that are lent
abbrev pub names_in : BTreeSet (Bor (List ℕ)) → List (List ℕ)
names_in set = map (λ key. key.now) set.keys

-- a text is one of the keys
keys_have : (text : List ℕ) (keys : List (Bor (List ℕ)))
    → list_any (λ key. is_eq (slice_cmp nat_cmp text key.now)) keys ≡ is_one_of (map (λ key. key.now) keys) text
keys_have text [] = refl
keys_have text (key ∷ keys) =
    ap (λ (b : Bool). b || list_any (λ k. is_eq (slice_cmp nat_cmp text k.now)) keys) (is_eq-slice_cmp text key.now)
    ∙ ap (λ (b : Bool). bytes_eq text key.now || b) (keys_have text keys)

-- a text is one of the names
pub set_has : (text : List ℕ) (set : BTreeSet (Bor (List ℕ)))
    → contains_by (λ key. slice_cmp nat_cmp text key.now) set ≡ is_one_of (names_in set) text
set_has text set = keys_have text set.keys

-- texts that are equal are one
pub bytes_same : (a b : List ℕ) → bytes_eq a b ≡ true → a ≡ b
bytes_same a b = (bytes_eq-Decides a b).0

-- a text is equal to itself
pub bytes_refl : (a : List ℕ) → bytes_eq a a ≡ true
bytes_refl a = (bytes_eq-Decides a a).1 refl

-- the order of two texts does not matter
pub bytes_eq-sym : (a b : List ℕ) → bytes_eq a b ≡ bytes_eq b a
bytes_eq-sym a b = at (bytes_eq a b) (bytes_eq b a) refl refl
  where
    at : (x y : Bool) → bytes_eq a b ≡ x → bytes_eq b a ≡ y → x ≡ y
    at true true p q = refl
    at false false p q = refl
    at true false p q = let e = bytes_same a b p in
        let r : bytes_eq b a ≡ true = ap (λ (z : List ℕ). bytes_eq z a) (sym e) ∙ bytes_refl a in cc
    at false true p q = let e = bytes_same b a q in
        let r : bytes_eq a b ≡ true = ap (λ (z : List ℕ). bytes_eq z b) (sym e) ∙ bytes_refl b in cc

-- the order of texts
abbrev pub text_cmp : Bor (List ℕ) → Bor (List ℕ) → Ordering
text_cmp x y = slice_cmp nat_cmp x.now y.now

-- a name is added
pub set_added : (old new : BTreeSet (Bor (List ℕ))) (name : Bor (List ℕ)) → Updates text_cmp old new name true → (text : List ℕ)
    → is_one_of (names_in new) text ≡ (is_one_of (names_in old) text || bytes_eq text name.now)
set_added old new name updates text =
    let key : Bor (List ℕ) = record { ref_ptr = (0, 0); now = text } in
    sym (set_has text new) ∙ (updates.0 key ∙ (ap (λ (b : Bool). cond b true (contains text_cmp old key))
    (is_eq-slice_cmp name.now text ∙ bytes_eq-sym name.now text)
    ∙ (ap (λ (b : Bool). cond (bytes_eq text name.now) true b) (set_has text old)
    ∙ as_or (is_one_of (names_in old) text) (bytes_eq text name.now))))
  where
    as_or : (a b : Bool) → cond b true a ≡ (a || b)
    as_or true true = refl
    as_or true false = refl
    as_or false true = refl
    as_or false false = refl
