use Rattle.std.proofs.Common.{◌≡◌, ◌∙◌, ap, sym, subst, inl, inr, List, ℕ, Option, Some, None, Vec, Global, MatchOption, true≢false}
use Rattle.g4_chars.specs.declared.item.Item.{Item}
use Rattle.g4_chars.specs.declared.part.Part.{Part}
use Rattle.g4_chars.specs.Reading.{items, parts}
use Rattle.g4_chars.specs.SetText.{HoldsIn, are_sound}
use Rattle.g4_chars.proofs.Ranges.{some_held}
use Rattle.g4_chars.proofs.Grammar.{items_are, bad_is, parts_are}
use Rattle.g4_chars.proofs.set_text.read_set.Goals as goal

-- the items of the text, as they were read
Listed : List ℕ → Option (Vec Item Global) → Type 0
Listed text found = MatchOption found (items text ≡ None) (λ v. items text ≡ Some v.items)

pub returns-in_default : goal.returns-in_default
unfolding Listed
returns-in_default c = bad_is 0 c.args.text.now (subst (Listed c.args.text.now) c.in_default.is c.in_ok-items.ensures)

pub returns-then-not-are_sound : goal.returns-then-not-are_sound
unfolding Listed
returns-then-not-are_sound c =
    let text = c.args.text.now in
    let is = c.in-Some.items.items in
    let listed : items text ≡ Some is = subst (Listed text) c.in-Some.is c.in_ok-items.ensures in
    let made : c.deref-2.result.now ≡ parts is = c.deref-2.ensures.value ∙ c.in_ok-parts.ensures ∙ ap parts c.deref.ensures.value in (
      is,
      parts is,
      items_are 0 text is listed,
      parts_are 0 is,
      inl (sym (ap are_sound made) ∙ sym c.are_sound.ensures ∙ c.if-not-are_sound.true),
    )

pub returns-then-is_empty : goal.returns-then-is_empty
unfolding Listed
returns-then-is_empty c =
    let text = c.args.text.now in
    let is = c.in-Some.items.items in
    let listed : items text ≡ Some is = subst (Listed text) c.in-Some.is c.in_ok-items.ensures in
    let again : c.deref-3.result.now ≡ parts is = c.deref-3.ensures.value ∙ c.in_ok-parts.ensures ∙ ap parts c.deref.ensures.value in
    let none = c.is_empty.ensures.0 c.if-is_empty.true in (
      is,
      parts is,
      items_are 0 text is listed,
      parts_are 0 is,
      inr (λ some. let P : List Part → Type 0 = λ ps. HoldsIn ps some.0 in
          none some.0 ((c.in_ok-set.ensures.members some.0).1 (subst P (sym again) some.1))),
    )

pub returns : goal.returns
unfolding Listed
returns c =
    let text = c.args.text.now in
    let is = c.in-Some.items.items in
    let listed : items text ≡ Some is = subst (Listed text) c.in-Some.is c.in_ok-items.ensures in
    let made : c.deref-2.result.now ≡ parts is = c.deref-2.ensures.value ∙ c.in_ok-parts.ensures ∙ ap parts c.deref.ensures.value in
    let again : c.deref-3.result.now ≡ parts is = c.deref-3.ensures.value ∙ c.in_ok-parts.ensures ∙ ap parts c.deref.ensures.value in
    let set = c.in_ok-set.set in
    let some = some_held set c.in_ok-set.ensures.canonical (λ none. true≢false (sym (c.is_empty.ensures.1 none) ∙ c.if-is_empty.false)) in
    let P : ℕ → List Part → Type 0 = λ x ps. HoldsIn ps x in (
      is,
      parts is,
      items_are 0 text is listed,
      parts_are 0 is,
      sym (ap are_sound made) ∙ sym c.are_sound.ensures ∙ c.if-not-are_sound.false,
      (some.0, subst (P some.0) again ((c.in_ok-set.ensures.members some.0).0 some.1)),
      c.in_ok-set.ensures.canonical,
      λ x. let held = c.in_ok-set.ensures.members x in (λ h. subst (P x) again (held.0 h), λ h. held.1 (subst (P x) (sym again) h)),
    )
