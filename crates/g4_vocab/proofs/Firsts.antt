-- Literals, of those for the same characters the first.
use Rattle.std.proofs.Common.{◌≡◌, ℕ, ◌+◌, ◌<◌, List, [], ◌∷◌, ◌++◌, length, map, take, get_or, Bool, true, false, ◌||◌, cond, not, filter, Option, Some, None, refl, sym, ap, ◌∙◌, subst}
use Rattle.std.specs.Borrow.{Bor}
use Rattle.std.specs.BTreeSet.{BTreeSet, contains, Updates}
use Rattle.std.specs.List.{filter_map, list_any}
use Rattle.std.specs.Ordering.{is_eq}
use Rattle.std.specs.Str.{bytes_eq}
use Rattle.std.proofs.lemmas.List.{append-nil}
use Rattle.std.proofs.lemmas.List.Elements.{filter-append}
use Rattle.std.proofs.lemmas.List.Folds.{list_any-append}
use Rattle.std.proofs.lemmas.Map.Text.{is_eq-slice_cmp}
use Rattle.g4_source.specs.declared.atom.Literal.{Literal}
use Rattle.g4_vocab.specs.Numbering.{first_literals}
use Rattle.g4_vocab.proofs.Keys.{bytes_eq-sym, bytes_same}
use Rattle.g4_vocab.proofs.Lists.{sights_more, sights_same}
use Rattle.g4_vocab.proofs.Repeats.{text_cmp}

-- a literal for these characters
abbrev is_for : List ℕ → Literal → Bool
is_for characters literal = bytes_eq literal.characters characters

-- a literal for other characters
abbrev is_other : Literal → Literal → Bool
is_other literal other = not (bytes_eq other.characters literal.characters)

-- one of the literals is for these characters
abbrev has : List Literal → List ℕ → Bool
has literals characters = list_any (is_for characters) literals

-- leaving out others leaves those for these characters
has_left : (characters : List ℕ) (y : Literal) (zs : List Literal) → bytes_eq y.characters characters ≡ false
    → has (filter (is_other y) zs) characters ≡ has zs characters
has_left characters y [] e = refl
has_left characters y (z ∷ zs) e = by (bytes_eq z.characters y.characters) refl (has_left characters y zs e)
  where
    by : (b : Bool) → bytes_eq z.characters y.characters ≡ b → has (filter (is_other y) zs) characters ≡ has zs characters
        → has (cond (not b) (z ∷ filter (is_other y) zs) (filter (is_other y) zs)) characters
        ≡ (bytes_eq z.characters characters || has zs characters)
    by true is rest =
        let same : z.characters ≡ y.characters = bytes_same z.characters y.characters is in
        rest ∙ sym (ap (λ (b : Bool). b || has zs characters) (ap (λ (cs : List ℕ). bytes_eq cs characters) same ∙ e))
    by false is rest = ap (λ (b : Bool). bytes_eq z.characters characters || b) rest

-- one literal more
pub firsts_more : (xs : List Literal) (l : Literal)
    → first_literals (xs ++ l ∷ []) ≡ first_literals xs ++ cond (has (first_literals xs) l.characters) [] (l ∷ [])
firsts_more [] l = refl
firsts_more (y ∷ ys) l =
    ap (λ (zs : List Literal). y ∷ filter (is_other y) zs) (firsts_more ys l)
    ∙ (ap (λ (zs : List Literal). y ∷ zs)
    (filter-append (is_other y) (first_literals ys) (cond (has (first_literals ys) l.characters) [] (l ∷ [])))
    ∙ ap (λ (zs : List Literal). y ∷ (filter (is_other y) (first_literals ys) ++ zs)) (by (bytes_eq y.characters l.characters) refl))
  where
    known : Bool
    known = has (first_literals ys) l.characters

    left : (b c : Bool) → is_other y l ≡ c → filter (is_other y) (cond b [] (l ∷ [])) ≡ cond b [] (cond c (l ∷ []) [])
    left true c e = refl
    left false c e = ap (λ (d : Bool). cond d (l ∷ []) []) e

    no_more : (b : Bool) (zs : List Literal) → cond b zs zs ≡ zs
    no_more true zs = refl
    no_more false zs = refl

    by : (b : Bool) → bytes_eq y.characters l.characters ≡ b → filter (is_other y) (cond known [] (l ∷ []))
        ≡ cond (b || has (filter (is_other y) (first_literals ys)) l.characters) [] (l ∷ [])
    by true is = left known false (ap not (bytes_eq-sym l.characters y.characters ∙ is)) ∙ no_more known []
    by false is = left known true (ap not (bytes_eq-sym l.characters y.characters ∙ is))
        ∙ ap (λ (b : Bool). cond b [] (l ∷ [])) (sym (has_left l.characters y (first_literals ys) is))

-- What is known of literals that are gone through: the set has the characters of the first ones.
pub record AreFound (xs : List Literal) (seen : BTreeSet (Bor (List ℕ))) (found : List Literal) : Type 0 where
  pub firsts : found ≡ first_literals xs
  pub seen_are : (characters : Bor (List ℕ)) → contains text_cmp seen characters ≡ has found characters.now

-- before the first
pub none_found : (seen : BTreeSet (Bor (List ℕ))) → seen.keys ≡ [] → AreFound [] seen []
none_found seen empty = record {
  firsts = refl;
  seen_are = λ characters. ap (λ (keys : List (Bor (List ℕ))). list_any (λ k. is_eq (text_cmp characters k)) keys) empty;
}

module _ (xs : List Literal) (old new : BTreeSet (Bor (List ℕ))) (found : List Literal) (l : Literal) (key : Bor (List ℕ))
    (h : AreFound xs old found) (named : key.now ≡ l.characters) (updates : Updates text_cmp old new key true) where
  -- whether one of the literals is for the characters of this one
  known : (b : Bool) → contains text_cmp old key ≡ b → has found l.characters ≡ b
  known b is = ap (has found) (sym named) ∙ (sym (h.seen_are key) ∙ is)

  -- what is seen with this one
  seen : (characters : Bor (List ℕ)) → contains text_cmp new characters
      ≡ cond (bytes_eq l.characters characters.now) true (has found characters.now)
  seen characters =
      updates.0 characters
      ∙ (ap (λ (b : Bool). cond b true (contains text_cmp old characters)) (is_eq-slice_cmp key.now characters.now)
      ∙ (ap (λ (n : List ℕ). cond (bytes_eq n characters.now) true (contains text_cmp old characters)) named
      ∙ ap (λ (b : Bool). cond (bytes_eq l.characters characters.now) true b) (h.seen_are characters)))

  as_or : (a b : Bool) → cond a true b ≡ (b || (a || false))
  as_or true true = refl
  as_or true false = refl
  as_or false true = refl
  as_or false false = refl

  -- it is new
  pub found_new : contains text_cmp old key ≡ false → AreFound (xs ++ l ∷ []) new (found ++ l ∷ [])
  found_new is = record {
    firsts =
        ap (λ (zs : List Literal). zs ++ l ∷ []) h.firsts
        ∙ (ap (λ (b : Bool). first_literals xs ++ cond b [] (l ∷ []))
        (sym (ap (λ (zs : List Literal). has zs l.characters) (sym h.firsts) ∙ known false is))
        ∙ sym (firsts_more xs l));
    seen_are = λ characters. seen characters
        ∙ (as_or (bytes_eq l.characters characters.now) (has found characters.now)
        ∙ sym (list_any-append (is_for characters.now) found (l ∷ [])));
  }

  -- an earlier one is for its characters
  pub found_old : contains text_cmp old key ≡ true → AreFound (xs ++ l ∷ []) new found
  found_old is = record {
    firsts =
        h.firsts
        ∙ (sym (append-nil (first_literals xs))
        ∙ (ap (λ (b : Bool). first_literals xs ++ cond b [] (l ∷ []))
        (sym (ap (λ (zs : List Literal). has zs l.characters) (sym h.firsts) ∙ known true is))
        ∙ sym (firsts_more xs l)));
    seen_are = λ characters. seen characters ∙ same characters (bytes_eq l.characters characters.now) refl;
  }
    where
      same : (characters : Bor (List ℕ)) (b : Bool) → bytes_eq l.characters characters.now ≡ b
          → cond b true (has found characters.now) ≡ has found characters.now
      same characters true e = sym (ap (has found) (sym (bytes_same l.characters characters.now e)) ∙ known true is)
      same characters false e = refl

-- the items that are gone through, one more that is a literal
pub gone_more : {X Y : Type 0} (F : Y → Option Literal) (view : X → Y) (xs : List X) (i : ℕ) (x : X) (l : Literal)
    (seen : BTreeSet (Bor (List ℕ))) (found : List Literal) → i < length xs → x ≡ get_or xs i x → F (view x) ≡ Some l
    → AreFound (filter_map F (map view (take i xs)) ++ l ∷ []) seen found → AreFound (filter_map F (map view (take (i + 1) xs))) seen found
gone_more F view xs i x l seen found within item is h =
    subst (λ (ls : List Literal). AreFound ls seen found)
    (sights_more F view xs i x l [] (filter_map F (map view (take i xs))) (filter_map F (map view (take i xs)) ++ l ∷ []) within item is
    refl refl) h

-- and one that is none
pub gone_same : {X Y : Type 0} (F : Y → Option Literal) (view : X → Y) (xs : List X) (i : ℕ) (x : X)
    (seen : BTreeSet (Bor (List ℕ))) (found : List Literal) → i < length xs → x ≡ get_or xs i x → F (view x) ≡ None
    → AreFound (filter_map F (map view (take i xs))) seen found → AreFound (filter_map F (map view (take (i + 1) xs))) seen found
gone_same F view xs i x seen found within item is h =
    subst (λ (ls : List Literal). AreFound ls seen found)
    (sights_same F view xs i x [] (filter_map F (map view (take i xs))) within item is refl) h
