use Rattle.std.proofs.Common.{◌≡◌, ◌++◌, sym, subst, List, inl, inr, rules}
use Rattle.std.specs.List.{All}
use Rattle.g4_chars.specs.declared.range.Range.{Range}
use Rattle.g4_chars.specs.CharSets.{Has, IsRange}
use Rattle.g4_chars.proofs.Ranges.{all_from_ranges, ranges_append, ranges_from_rising, has_append_left, has_append_right, has_append_cases}
use Rattle.g4_chars.proofs.char_set.CharSet.union.Goals as goal

pub of_ranges-requires : goal.of_ranges-requires
of_ranges-requires c =
    let one = c.ranges-2.result.now in
    let two = c.ranges-3.result.now in
    let both : c.extend_from_slice.new.self.items ≡ one ++ two = search rules in
    subst (All IsRange) (sym both) (all_from_ranges (one ++ two)
    (ranges_append one two (ranges_from_rising 0 one c.ranges-2.ensures.canonical)
    (ranges_from_rising 0 two c.ranges-3.ensures.canonical)))

pub returns : goal.returns
returns c = λ x.
    let one = c.ranges-2.result.now in
    let two = c.ranges-3.result.now in
    let P : List Range → Type 0 = λ rs. Has rs x in
    let both : c.extend_from_slice.new.self.items ≡ one ++ two = search rules in
    let all = c.in_ok-set.ensures.members x in (
      λ h. elim (has_append_cases one two x (subst P both (all.0 h)))
          [ inl a ↦ inl (subst P c.ranges-2.ensures.value a) | inr b ↦ inr (subst P c.ranges-3.ensures.value b) ],
      λ h. all.1 (subst P (sym both) (elim h [
        | inl a ↦ has_append_left one two x (subst P (sym c.ranges-2.ensures.value) a)
        | inr b ↦
            has_append_right one two x (subst P (sym c.ranges-3.ensures.value) b)
      ])),
    )
