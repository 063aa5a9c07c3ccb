use Rattle.std.proofs.Common.{sym, subst, List, inl, inr}
use Rattle.std.specs.List.{All}
use Rattle.std.proofs.lemmas.List.Elements.{All-append}
use Rattle.g4_chars.specs.declared.range.Range.{Range}
use Rattle.g4_chars.specs.CharSets.{Has, IsRange}
use Rattle.g4_chars.proofs.Ranges.{all_from_ranges, ranges_from_rising, has_append_left, has_append_right, has_append_cases}
use Rattle.g4_chars.proofs.part.push_part.Goals as goal

pub returns-clause-members : goal.returns-clause-members
returns-clause-members c = λ x.
    let before = c.args.out.now.items in
    let new = c.ranges-2.result.now in
    let both = c.in_ok-extend_from_slice.ensures.items in
    let P : List Range → Type 0 = λ rs. Has rs x in
    let part = c.in_ok-set.ensures x in (
      λ h. elim (has_append_cases before new x (subst P both h))
          [ inl a ↦ inl a | inr b ↦ inr (part.0 (subst P c.ranges-2.ensures.value b)) ],
      λ h. subst P (sym both) (elim h [
        | inl a ↦ has_append_left before new x a
        | inr b ↦ has_append_right before new x
            (subst P (sym c.ranges-2.ensures.value) (part.1 b))
      ]),
    )

pub returns-clause-ranges : goal.returns-clause-ranges
returns-clause-ranges c = λ all.
    let before = c.args.out.now.items in
    let new = c.ranges-2.result.now in
    subst (All IsRange) (sym c.in_ok-extend_from_slice.ensures.items)
    (All-append IsRange before new all (all_from_ranges new (ranges_from_rising 0 new c.ranges-2.ensures.canonical)))
