-- Which sets are listed, and which are bad.
use Rattle.std.proofs.Common.{◌≡◌, ℕ, ◌<◌, List, [], ◌∷◌, ◌++◌, map, Bool, true, false, not, ◌&&◌, ◌||◌, inl, inr, ◌⊎◌, ◌↔◌, Option, Some, None, refl, sym, ap, subst, true≢false, ◌∙◌, arith}
use Rattle.std.specs.Option.{is_none}
use Rattle.std.specs.Prelude.{if◌then◌else◌}
use Rattle.std.proofs.lemmas.Bool.{and_parts, leb-true, le-leb}
use Rattle.std.proofs.lemmas.Bool.Decides.{nat_tests}
use Rattle.std.proofs.Math.Bool.{or-true}
use Rattle.std.proofs.lemmas.List.{map-append}
use Rattle.ucd_sets.specs.Sets.{in_set}
use Rattle.g4_chars.specs.CharSets.{IsScalar, IsCanonical, Has}
use Rattle.g4_chars.specs.Escapes.{is_scalar}
use Rattle.g4_chars.specs.Reading.{items, parts}
use Rattle.g4_chars.specs.SetText.{Spells, are_sound, Holds, HoldsIn, HoldSome}
use Rattle.g4_chars.specs.declared.item.Item.{Item}
use Rattle.g4_chars.specs.declared.part.Part.{Part}
use Rattle.g4_chars.specs.declared.part.Part.TheVariants as sets
use Rattle.g4_chars.proofs.Grammar.{items_are, bad_is, parts_are}
use Rattle.g4_chars.proofs.Laws.{one_form, items_listed, none_listed, parts_listed}
use Rattle.g4_chars.specs.declared.range.Range.{Range as Span}
use Rattle.g4_productions.specs.Members.{holds, holds_in, ranges_in, part_of, set_of_ranges, unless_empty, set_of_parts, set_of_items, set_of}
use Rattle.g4_cursor.specs.Sets.{IsBadContent}
use Rattle.g4_productions.proofs.Ranges.{IsOfScalars, ranges_rise, ranges_have}

-- a code that passes the test is a scalar value
scalar_from : (c : ℕ) → is_scalar c ≡ true → IsScalar c
scalar_from c e = grind (arith, nat_tests)

-- a scalar value passes the test
scalar_passes : (c : ℕ) → IsScalar c → is_scalar c ≡ true
scalar_passes c is = grind (arith, nat_tests)

-- a test of a property and its complement
complement_from : (complement b : Bool) → (if complement then not b else b) ≡ true → b ≡ not complement
complement_from true true e = absurd (cc)
complement_from true false e = refl
complement_from false b e = e

complement_passes : (complement b : Bool) → b ≡ not complement → (if complement then not b else b) ≡ true
complement_passes true b e = rw e refl
complement_passes false b e = e

-- both tests pass
both_pass : (x y : Bool) → x ≡ true → y ≡ true → (x && y) ≡ true
both_pass x y e f = rw (e, f) refl

-- what passes the test of a part is in it
holds_from : (p : Part) (c : ℕ) → holds p c ≡ true → Holds p c
holds_from (sets.Span first last) c e =
    let both = and_parts _ (is_scalar c) e in
    let ends = and_parts _ _ both.0 in
    (leb-true first c ends.0, leb-true c last ends.1, scalar_from c both.1)
holds_from (sets.Class complement None) c e = absurd (cc)
holds_from (sets.Class complement (Some property)) c e =
    let both = and_parts _ (is_scalar c) e in
    (complement_from complement (in_set property c) both.0, scalar_from c both.1)

-- what is in a part passes its test
holds_passes : (p : Part) (c : ℕ) → Holds p c → holds p c ≡ true
holds_passes (sets.Span first last) c (from, to, scalar) =
    both_pass _ _ (both_pass _ _ (le-leb first c from) (le-leb c last to)) (scalar_passes c scalar)
holds_passes (sets.Class complement None) c h = absurd h
holds_passes (sets.Class complement (Some property)) c (is, scalar) =
    both_pass _ _ (complement_passes complement (in_set property c) is) (scalar_passes c scalar)

-- what passes the test of parts is in one of them
holds_in_from : (ps : List Part) (c : ℕ) → holds_in ps c ≡ true → HoldsIn ps c
holds_in_from [] c e = absurd (cc)
holds_in_from (p ∷ ps) c e = by_test (holds p c) refl e (holds_in_from ps c)
  where
    by_test : (b : Bool) → holds p c ≡ b → (b || holds_in ps c) ≡ true → (holds_in ps c ≡ true → HoldsIn ps c) → HoldsIn (p ∷ ps) c
    by_test true is e further = inl (holds_from p c is)
    by_test false is e further = inr (further e)

-- what is in one of the parts passes their test
holds_in_passes : (ps : List Part) (c : ℕ) → HoldsIn ps c → holds_in ps c ≡ true
holds_in_passes [] c h = absurd h
holds_in_passes (p ∷ ps) c (inl h) = rw (holds_passes p c h) refl
holds_in_passes (p ∷ ps) c (inr h) = rw (holds_in_passes ps c h) (or-true (holds p c))

-- what is in a part is a scalar value
holds_scalar : (p : Part) (c : ℕ) → Holds p c → IsScalar c
holds_scalar (sets.Span first last) c h = h.2
holds_scalar (sets.Class complement None) c h = absurd h
holds_scalar (sets.Class complement (Some property)) c h = h.1

-- what is in one of the parts is a scalar value
holds_in_scalar : (ps : List Part) (c : ℕ) → HoldsIn ps c → IsScalar c
holds_in_scalar [] c h = absurd h
holds_in_scalar (p ∷ ps) c (inl h) = holds_scalar p c h
holds_in_scalar (p ∷ ps) c (inr h) = holds_in_scalar ps c h

-- what passes the test of parts is a scalar value
of_scalars : (ps : List Part) → IsOfScalars (holds_in ps)
of_scalars ps c e = holds_in_scalar ps c (holds_in_from ps c e)

-- scalar values are below the end of Unicode
scalar_below : (c : ℕ) → IsScalar c → c < 0x110000
scalar_below c (inl low) = omega (arith, low)
scalar_below c (inr high) = high.1

-- the ranges in parts have their characters
ranges_hold : (ps : List Part) (c : ℕ) → Has (ranges_in ps) c ↔ HoldsIn ps c
ranges_hold ps c =
    let have = ranges_have (holds_in ps) 0 0x110000 c (of_scalars ps) in
    (λ h. holds_in_from ps c (have.0 h).2, λ h. have.1 (omega arith, scalar_below c (holds_in_scalar ps c h), holds_in_passes ps c h))

-- the ranges in parts are those of a set
ranges_canonical : (ps : List Part) → IsCanonical (ranges_in ps)
ranges_canonical ps = ranges_rise (holds_in ps) 0 0x110000 (of_scalars ps)

-- sound parts that hold a character are the ranges of a set
sound_spells : (text : List ℕ) (is : List Item) → items text ≡ Some is → are_sound (parts is) ≡ true → HoldSome (parts is)
    → Spells text (ranges_in (parts is))
sound_spells text is e sound some = (
  is,
  parts is,
  items_are 0 text is e,
  parts_are 0 is,
  sound,
  some,
  ranges_canonical (parts is),
  ranges_hold (parts is),
)

-- ranges with a character are some
kept : (spans : List Span) (c : ℕ) → Has spans c → unless_empty spans ≡ Some spans
kept [] c h = absurd h
kept (span ∷ spans) c h = refl

-- ranges without a character are none
none_kept : (spans : List Span) → IsCanonical spans → ((c : ℕ) → Has spans c → ⊥) → unless_empty spans ≡ None
none_kept [] rise none = refl
none_kept (span ∷ spans) rise none = absurd (none span.first (inl (omega arith, rise.1.0)))

-- the ranges of parts that hold a character
some_ranges : (ps : List Part) → HoldSome ps → unless_empty (ranges_in ps) ≡ Some (ranges_in ps)
some_ranges ps (c, h) = kept (ranges_in ps) c ((ranges_hold ps c).1 h)

-- parts that hold no character have no ranges
no_ranges : (ps : List Part) → (HoldSome ps → ⊥) → unless_empty (ranges_in ps) ≡ None
no_ranges ps none = none_kept (ranges_in ps) (ranges_canonical ps) (λ c h. none (c, (ranges_hold ps c).0 h))

-- a set that is spelled is listed
pub spelled_set : (text : List ℕ) (set : List Span) → Spells text set → set_of text ≡ Some set
spelled_set text set (is, ps, are, made, sound, some, canonical, have) =
    let same : ranges_in ps ≡ set = one_form (ranges_in ps) set (ranges_canonical ps) canonical
    (λ c. (λ h. (have c).1 ((ranges_hold ps c).0 h), λ h. (ranges_hold ps c).1 ((have c).0 h))) in
    ap set_of_items (items_listed text is are)
    ∙ ap set_of_parts (parts_listed is ps made)
    ∙ ap (λ (b : Bool). if b then unless_empty (ranges_in ps) else None) sound
    ∙ some_ranges ps some
    ∙ ap Some same

-- a bad set is not listed
pub bad_set : (text : List ℕ) → IsBadContent text → set_of text ≡ None
bad_set text (inl (is, ps, are, made, bad)) =
    ap set_of_items (items_listed text is are) ∙ ap set_of_parts (parts_listed is ps made) ∙ by_cause bad (are_sound ps) refl
  where
    by_cause : (are_sound ps ≡ false) ⊎ (HoldSome ps → ⊥) → (b : Bool) → are_sound ps ≡ b
        → (if b then unless_empty (ranges_in ps) else None) ≡ None
    by_cause (inl unsound) true sound = absurd (true≢false (sym sound ∙ unsound))
    by_cause (inr none) true sound = no_ranges ps none
    by_cause cause false unsound = refl
bad_set text (inr bad) = ap set_of_items (none_listed text bad)

-- what the text of a set is
abbrev IsListed : List ℕ → Option (List Span) → Type 0
IsListed text None = IsBadContent text
IsListed text (Some set) = Spells text set

-- what is listed, is so
listed : (text : List ℕ) → IsListed text (set_of text)
listed text = by_items (items text) refl
  where
    by_ranges : (is : List Item) → items text ≡ Some is → are_sound (parts is) ≡ true → (spans : List Span)
        → ranges_in (parts is) ≡ spans → IsListed text (unless_empty spans)
    by_ranges is e sound [] none = inl (
      is,
      parts is,
      items_are 0 text is e,
      parts_are 0 is,
      inr (λ some. subst (λ (l : List Span). Has l some.0) none ((ranges_hold (parts is) some.0).1 some.1)),
    )
    by_ranges is e sound (span ∷ spans) are =
        let first : Has (ranges_in (parts is)) span.first =
        subst (λ (l : List Span). Has l span.first) (sym are)
        (inl (omega arith, (subst IsCanonical are (ranges_canonical (parts is))).1.0)) in
        subst (Spells text) are (sound_spells text is e sound (span.first, (ranges_hold (parts is) span.first).0 first))

    by_sound : (is : List Item) → items text ≡ Some is → (b : Bool) → are_sound (parts is) ≡ b
        → IsListed text (if b then unless_empty (ranges_in (parts is)) else None)
    by_sound is e true sound = by_ranges is e sound (ranges_in (parts is)) refl
    by_sound is e false unsound = inl (is, parts is, items_are 0 text is e, parts_are 0 is, inl unsound)

    by_items : (o : Option (List Item)) → items text ≡ o → IsListed text (set_of_items o)
    by_items None e = inr (bad_is 0 text e)
    by_items (Some is) e = by_sound is e (are_sound (parts is)) refl

-- a set that is not listed is bad
pub none_bad : (text : List ℕ) → is_none (set_of text) ≡ true → IsBadContent text
none_bad text e = by_set (set_of text) (listed text) e
  where
    by_set : (o : Option (List Span)) → IsListed text o → is_none o ≡ true → IsBadContent text
    by_set None bad e = bad
    by_set (Some set) spells e = absurd (cc)

-- what is in one of two lists of parts is in both of them together
pub holds_append : (ps qs : List Part) (c : ℕ) → HoldsIn (ps ++ qs) c ↔ (HoldsIn ps c ⊎ HoldsIn qs c)
holds_append [] qs c = (λ h. inr h, λ h. elim h [ inl never ↦ absurd never | inr h ↦ h ])
holds_append (p ∷ ps) qs c =
    let further = holds_append ps qs c in (
      λ h. elim h [ inl first ↦ inl (inl first) | inr h ↦ elim (further.0 h) [ inl h ↦ inl (inr h) | inr h ↦ inr h ] ],
      λ h. elim h [ inl h ↦ elim h [ inl first ↦ inl first | inr h ↦ inr (further.1 (inl h)) ] | inr h ↦ inr (further.1 (inr h)) ],
    )

-- the set with the characters in the ranges is the one listed
pub ranges_listed : (spans set : List Span) → IsCanonical set → ((c : ℕ) → Has set c ↔ HoldsIn (map part_of spans) c)
    → set ≡ set_of_ranges spans
ranges_listed spans set canonical have =
    let ps : List Part = map part_of spans in
    one_form set (ranges_in ps) canonical (ranges_canonical ps)
    (λ c. (λ h. (ranges_hold ps c).1 ((have c).0 h), λ h. (have c).1 ((ranges_hold ps c).0 h)))

-- the characters of both sets are those in the ranges of both
pub halves_joined : (front after all first second whole : List Span) → front ++ after ≡ all
    → ((c : ℕ) → Has first c ↔ HoldsIn (map part_of front) c) → ((c : ℕ) → Has second c ↔ HoldsIn (map part_of after) c)
    → ((c : ℕ) → Has whole c ↔ (Has first c ⊎ Has second c)) →
    (c : ℕ) → Has whole c ↔ HoldsIn (map part_of all) c
halves_joined front after all first second whole is one other both c =
    let P : List Part → Type 0 = λ ps. Has whole c ↔ HoldsIn ps c in
    let parts : map part_of front ++ map part_of after ≡ map part_of all = sym (map-append part_of front after) ∙ ap (map part_of) is in
    let joined = holds_append (map part_of front) (map part_of after) c in
    subst P parts (
      λ h. elim ((both c).0 h) [ inl h ↦ joined.1 (inl ((one c).0 h)) | inr h ↦ joined.1 (inr ((other c).0 h)) ],
      λ h. elim (joined.0 h) [ inl h ↦ (both c).1 (inl ((one c).1 h)) | inr h ↦ (both c).1 (inr ((other c).1 h)) ],
    )
