use Rattle.std.proofs.Common.{sym, subst, List, arith}
use Rattle.std.specs.List.{All}
use Rattle.g4_chars.specs.declared.range.Range.{Range}
use Rattle.g4_chars.specs.CharSets.{Has, IsRange}
use Rattle.g4_chars.specs.Building.{gaps}
use Rattle.g4_chars.proofs.Ranges.{all_from_ranges, gaps_ranges, gaps_has}
use Rattle.g4_chars.proofs.char_set.CharSet.negate.Goals as goal

pub of_ranges-requires : goal.of_ranges-requires
of_ranges-requires c = subst (All IsRange) (sym c.in_ok-ranges.ensures)
    (all_from_ranges (gaps 0 c.ranges-2.result.now) (gaps_ranges 0 c.ranges-2.result.now))

pub returns : goal.returns
returns c = λ x.
    let P : List Range → Type 0 = λ rs. Has rs x in
    let all = c.in_ok-set.ensures.members x in
    let left = gaps_has 0 c.ranges-2.result.now x c.ranges-2.ensures.canonical in
    let self_is = c.ranges-2.ensures.value in (
      λ h. let w = left.0 (subst P c.in_ok-ranges.ensures (all.0 h)) in (w.1, λ n. w.2 (subst P (sym self_is) n)),
      λ h. all.1 (subst P (sym c.in_ok-ranges.ensures) (left.1 (omega arith, h.0, λ n. h.1 (subst P self_is n)))),
    )
