use Rattle.std.proofs.Common.{◌≡◌, ◌∙◌, ◌++◌, ap, sym, subst, List, arith}
use Rattle.std.specs.List.{All}
use Rattle.ucd_sets.specs.Sets.{in_set}
use Rattle.ucd_table.specs.Rows.{in_ranges}
use Rattle.g4_chars.specs.declared.range.Range.{Range}
use Rattle.g4_chars.specs.CharSets.{Has, IsScalar, IsRange}
use Rattle.g4_chars.specs.Building.{all_scalars}
use Rattle.g4_chars.proofs.Ranges.{all_from_ranges}
use Rattle.g4_chars.proofs.Members.{all_scalars_ranges, all_scalars_has}
use Rattle.g4_chars.proofs.part.having.Goals as goal

pub of_ranges-requires : goal.of_ranges-requires
of_ranges-requires c =
    let found = c.deref.result.now in
    let made : c.push_all.new.out.items ≡ all_scalars found =
    c.in_ok-push_all.ensures ∙ ap (λ (l : List Range). l ++ all_scalars found) c.new-ranges.ensures.items in
    subst (All IsRange) (sym made) (all_from_ranges (all_scalars found) (all_scalars_ranges found))

pub returns : goal.returns
returns c = λ x.
    let found = c.deref.result.now in
    let made : c.push_all.new.out.items ≡ all_scalars found =
    c.in_ok-push_all.ensures ∙ ap (λ (l : List Range). l ++ all_scalars found) c.new-ranges.ensures.items in
    let P : List Range → Type 0 = λ rs. Has rs x in
    let all = c.in_ok-set.ensures.members x in
    let held = all_scalars_has found x in
    let same : IsScalar x → in_ranges found x ≡ in_set c.args.property x =
    λ s. ap (λ l. in_ranges l x) c.deref.ensures.value ∙ c.in_ok-found.ensures.members x (grind arith) in (
      λ h. let w = held.0 (subst P made (all.0 h)) in (sym (same w.1) ∙ w.0, w.1),
      λ h. all.1 (subst P (sym made) (held.1 (same h.1 ∙ h.0, h.1))),
    )
