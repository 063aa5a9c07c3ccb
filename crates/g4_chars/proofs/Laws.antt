-- Sets have one form, and texts have one reading.
use Rattle.std.proofs.Common.{◌≡◌, ◌≢◌, ℕ, ◌+◌, ◌≤◌, ◌⊎◌, inl, inr, List, [], ◌∷◌, drop, Bool, true, false, cond, ◌==◌, Option, Some, None, Result, Ok, Err, option_map, unwrap_or, is_some, refl, sym, ap, subst, ◌∙◌, arith, true≢false}
use Rattle.std.proofs.lemmas.Bool.{cases_lt}
use Rattle.std.proofs.lemmas.Bool.Decides.{nat_tests}
use Rattle.g4_chars.specs.declared.escape.Escape.{Escape}
use Rattle.g4_chars.specs.declared.escape.Context.TheVariants.{Set}
use Rattle.g4_chars.specs.declared.range.Range.{Range}
use Rattle.g4_chars.specs.declared.item.Found.{Found}
use Rattle.g4_chars.specs.declared.item.Item.{Item}
use Rattle.g4_chars.specs.declared.item.Item.TheVariants.{Member}
use Rattle.g4_chars.specs.declared.part.Part.{Part}
use Rattle.g4_chars.specs.declared.part.Part.TheVariants.{Span, Class}
use Rattle.g4_chars.specs.declared.set_text.SetFault.{SetFault}
use Rattle.g4_chars.specs.declared.set_text.SetFault.TheVariants.{BadEscape, BadSet, NoMemory}
use Rattle.g4_chars.specs.CharSets.{Has, HaveSame, RiseFrom, IsCanonical}
use Rattle.g4_chars.specs.Escapes.{escape}
use Rattle.g4_chars.specs.Reading.{item_at, items_from, items, range_end, parts_from, parts}
use Rattle.g4_chars.specs.SetText.{escaped_item, AreItems, no_item, a_character, an_escape, HasBadEscape, at_once, after_a_character, after_an_escape, EndRange, AreParts, no_part, a_range, one_character, a_property, are_sound, HoldsIn, HoldSome, Spells, IsFault, IsReading}
use Rattle.g4_chars.proofs.Ranges.{rise_past}
use Rattle.g4_chars.proofs.Reading.{items_skip, items_step}
use Rattle.g4_chars.proofs.Grammar.{end_shape}

range_same : (r s : Range) → r.first ≡ s.first → r.last ≡ s.last → r ≡ s
range_same r s e f = λ i. record { first = e i; last = f i }

-- the first range of one list begins no later than that of another with its characters
begins_first : (n m : ℕ) (r s : Range) (rs ss : List Range) → RiseFrom n (r ∷ rs) → RiseFrom m (s ∷ ss) → HaveSame (r ∷ rs) (s ∷ ss)
    → s.first ≤ r.first
begins_first n m r s rs ss a b same = elim ((same r.first).0 (inl (omega arith, a.1.0)))
    [ inl w ↦ w.0 | inr later ↦ omega (arith, b.1.0, rise_past (s.last + 2) ss r.first b.2 later) ]

-- nor does it end before it
ends_last : (n m : ℕ) (r s : Range) (rs ss : List Range) → RiseFrom n (r ∷ rs) → RiseFrom m (s ∷ ss) → r.first ≡ s.first
    → HaveSame (r ∷ rs) (s ∷ ss) → s.last ≤ r.last
ends_last n m r s rs ss a b starts same = elim (cases_lt r.last s.last) [
  | inl less ↦ absurd (elim ((same (r.last + 1)).1 (inl (omega (arith, starts, a.1.0), omega arith)))
      [ inl w ↦ absurd (omega (arith, w.1)) | inr later ↦ absurd (omega (arith, rise_past (r.last + 2) rs (r.last + 1) a.2 later)) ])
  | inr done ↦ done
]

rest_holds : (n m : ℕ) (r s : Range) (rs ss : List Range) → RiseFrom n (r ∷ rs) → r.last ≡ s.last → HaveSame (r ∷ rs) (s ∷ ss)
    → (c : ℕ) → Has rs c → Has ss c
rest_holds n m r s rs ss a ends same c h = elim ((same c).0 (inr h))
    [ inl w ↦ absurd (omega (arith, w.1, ends, rise_past (r.last + 2) rs c a.2 h)) | inr later ↦ later ]

swapped : (rs ss : List Range) → HaveSame rs ss → HaveSame ss rs
swapped rs ss same c = ((same c).1, (same c).0)

one_form_from : (n m : ℕ) (rs ss : List Range) → RiseFrom n rs → RiseFrom m ss → HaveSame rs ss → rs ≡ ss
one_form_from n m [] [] a b same = refl
one_form_from n m [] (s ∷ ss) a b same = absurd ((same s.first).1 (inl (omega arith, b.1.0)))
one_form_from n m (r ∷ rs) [] a b same = absurd ((same r.first).0 (inl (omega arith, a.1.0)))
one_form_from n m (r ∷ rs) (s ∷ ss) a b same =
    let back = swapped (r ∷ rs) (s ∷ ss) same in
    let one = begins_first n m r s rs ss a b same in
    let two = begins_first m n s r ss rs b a back in
    let starts : r.first ≡ s.first = omega arith in
    let three = ends_last n m r s rs ss a b starts same in
    let four = ends_last m n s r ss rs b a (sym starts) back in
    let ends : r.last ≡ s.last = omega arith in
    let rest : HaveSame rs ss = λ c. (rest_holds n m r s rs ss a ends same c, rest_holds m n s r ss rs b (sym ends) back c) in
    let first = range_same r s starts ends in
    let others = one_form_from (r.last + 2) (s.last + 2) rs ss a.2 b.2 rest in
    λ i. first i ∷ others i

-- lists of ranges with the same characters are one
pub one_form : (rs ss : List Range) → IsCanonical rs → IsCanonical ss → HaveSame rs ss → rs ≡ ss
one_form = one_form_from 0 0

-- the items of a text are those that are listed
character_item : (c : ℕ) (cs : List ℕ) → c ≢ 92 → (b : Bool) → b ≡ (c == 92)
    → cond b (option_map {U = Found} (λ (e : Escape). record { item = escaped_item e.meaning cs; taken = e.taken }) (escape Set cs))
    (Some (record { item = Member c true; taken = 0 })) ≡ Some (record { item = Member c true; taken = 0 })
character_item c cs other true is = absurd (other (grind (arith, nat_tests)))
character_item c cs other false is = refl

escape_item : (cs : List ℕ) (e : Escape) → escape Set cs ≡ Some e
    → item_at 92 cs ≡ Some (record { item = escaped_item e.meaning cs; taken = e.taken })
escape_item cs e is = ap (option_map {U = Found} (λ (e : Escape). record { item = escaped_item e.meaning cs; taken = e.taken })) is

pub items_listed : (text : List ℕ) (is : List Item) → AreItems text is → items text ≡ Some is
items_listed _ _ no_item = refl
items_listed _ _ (a_character c cs is other more) =
    let found : Found = record { item = Member c true; taken = 0 } in
    items_step c cs found (character_item c cs other (c == 92) refl)
    ∙ ap (option_map (λ more. Member c true ∷ more)) (items_listed cs is more)
items_listed _ _ (an_escape cs e is found_is more) =
    let found : Found = record { item = escaped_item e.meaning cs; taken = e.taken } in
    items_step 92 cs found (escape_item cs e found_is)
    ∙ ap (option_map (λ more. escaped_item e.meaning cs ∷ more)) (items_skip e.taken cs ∙ items_listed (drop e.taken cs) is more)

bad_item : (cs : List ℕ) → escape Set cs ≡ None → item_at 92 cs ≡ None
bad_item cs is = ap (option_map {U = Found} (λ (e : Escape). record { item = escaped_item e.meaning cs; taken = e.taken })) is

bad_step : (c : ℕ) (cs : List ℕ) → item_at c cs ≡ None → items (c ∷ cs) ≡ None
bad_step c cs is = rw (is, items_from) refl

-- a text with a bad escape has none
pub none_listed : (text : List ℕ) → HasBadEscape text → items text ≡ None
none_listed _ (at_once cs is) = bad_step 92 cs (bad_item cs is)
none_listed _ (after_a_character c cs other more) =
    let found : Found = record { item = Member c true; taken = 0 } in
    items_step c cs found (character_item c cs other (c == 92) refl) ∙ ap (option_map (λ more. Member c true ∷ more)) (none_listed cs more)
none_listed _ (after_an_escape cs e found_is more) =
    let found : Found = record { item = escaped_item e.meaning cs; taken = e.taken } in
    items_step 92 cs found (escape_item cs e found_is)
    ∙ ap (option_map (λ more. escaped_item e.meaning cs ∷ more)) (items_skip e.taken cs ∙ none_listed (drop e.taken cs) more)

-- the parts that items make are those that are listed
no_range : (is : List Item) → (EndRange is → ⊥) → (o : Option ℕ) → o ≡ range_end is → None ≡ o
no_range is none None e = refl
no_range is none (Some last) e = let end = end_shape is last (sym e) in absurd (none (last, end.0, end.1, end.2))

alone_parts : (c : ℕ) (p : Bool) (is : List Item) → None ≡ range_end is → parts (Member c p ∷ is) ≡ Span c c ∷ parts is
alone_parts c p is none = let P : Option ℕ → Type 0 =
    λ o. Span c (unwrap_or o c) ∷ parts_from (cond (is_some o) 2 0) is ≡ Span c c ∷ parts is in subst P none refl

pub parts_listed : (is : List Item) (ps : List Part) → AreParts is ps → parts is ≡ ps
parts_listed _ _ no_part = refl
parts_listed _ _ (a_range first last p q is ps more) = ap (◌∷◌ (Span first last)) (parts_listed is ps more)
parts_listed _ _ (one_character c p is ps none more) =
    alone_parts c p is (no_range is none (range_end is) refl) ∙ ap (◌∷◌ (Span c c)) (parts_listed is ps more)
parts_listed _ _ (a_property complement property is ps more) = ap (◌∷◌ (Class complement property)) (parts_listed is ps more)

-- items and parts of one text are the same
same_items : (text : List ℕ) (is js : List Item) → AreItems text is → AreItems text js → is ≡ js
same_items text is js a b = let both : Some is ≡ Some js = sym (items_listed text is a) ∙ items_listed text js b in cc

same_parts : (text : List ℕ) (is js : List Item) (ps qs : List Part) → AreItems text is → AreItems text js → AreParts is ps
    → AreParts js qs → ps ≡ qs
same_parts text is js ps qs a b p q = sym (parts_listed is ps p) ∙ ap parts (same_items text is js a b) ∙ parts_listed js qs q

not_both : (text : List ℕ) (is : List Item) → AreItems text is → HasBadEscape text → ⊥
not_both text is a bad = let both : Some is ≡ None = sym (items_listed text is a) ∙ none_listed text bad in absurd cc

-- a text that spells a set is no bad set
good_or_bad : (text : List ℕ) (set : List Range) → Spells text set → IsFault text BadSet → ⊥
good_or_bad text set (is, ps, are, made, sound, some, canonical, have) (js, qs, also, also_made, bad) = by_cause bad
  where
    same : ps ≡ qs
    same = same_parts text is js ps qs are also made also_made

    by_cause : (are_sound qs ≡ false) ⊎ (HoldSome qs → ⊥) → ⊥
    by_cause (inl unsound) = true≢false (sym sound ∙ ap are_sound same ∙ unsound)
    by_cause (inr none) = none (subst HoldSome same some)

-- a text has one reading
pub one_reading : (text : List ℕ) (a b : Result (List Range) SetFault) → IsReading text a → IsReading text b → a ≢ Err NoMemory
    → b ≢ Err NoMemory → a ≡ b
one_reading text (Ok s) (Ok t) a b x y =
    let same = same_parts text a.0 b.0 a.1 b.1 a.2 b.2 a.3 b.3 in
    let P : List Part → ℕ → Type 0 = λ ps c. HoldsIn ps c in
    ap Ok (one_form s t a.6 b.6 (λ c. (
      λ h. (b.7 c).1 (subst (λ ps. P ps c) same ((a.7 c).0 h)),
      λ h. (a.7 c).1 (subst (λ ps. P ps c) (sym same) ((b.7 c).0 h)),
    )))
one_reading text (Ok s) (Err BadEscape) a b x y = absurd (not_both text a.0 a.2 b)
one_reading text (Ok s) (Err BadSet) a b x y = absurd (good_or_bad text s a b)
one_reading text (Ok s) (Err NoMemory) a b x y = absurd (y refl)
one_reading text (Err BadEscape) (Ok t) a b x y = absurd (not_both text b.0 b.2 a)
one_reading text (Err BadEscape) (Err BadEscape) a b x y = refl
one_reading text (Err BadEscape) (Err BadSet) a b x y = absurd (not_both text b.0 b.2 a)
one_reading text (Err BadEscape) (Err NoMemory) a b x y = absurd (y refl)
one_reading text (Err BadSet) (Ok t) a b x y = absurd (good_or_bad text t b a)
one_reading text (Err BadSet) (Err BadEscape) a b x y = absurd (not_both text a.0 a.2 b)
one_reading text (Err BadSet) (Err BadSet) a b x y = refl
one_reading text (Err BadSet) (Err NoMemory) a b x y = absurd (y refl)
one_reading text (Err NoMemory) b a c x y = absurd (x refl)
