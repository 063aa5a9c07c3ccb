use Rattle.std.proofs.Common.{◌≡◌, ◌≤◌, List, length, Some, refl, sym, ap, ◌∙◌, arith}
use Rattle.std.specs.List.{slice_get}
use Rattle.std.proofs.lemmas.List.{length-map}
use Rattle.std.proofs.lemmas.Option.{slice_get_read}
use Rattle.g4_source.specs.Elements.{Elements, either}
use Rattle.g4_recursion.specs.declared.lead.Lead.{Lead}
use Rattle.g4_recursion.specs.Leads.{alternatives_of, trees_of}
use Rattle.g4_recursion.proofs.Growing.{grows_none, grows_more, rules_are_bodies, all_covered, rule_covered}
use Rattle.g4_recursion.proofs.Trees.{mapped_at}
use Rattle.g4_recursion.proofs.clauses.bodies_of.Goals as goal

pub loop-number-init : goal.loop-number-init
loop-number-init c =
    let rules = trees_of c.args.rules.now in
    let count = length-map c.args.rules.now alternatives_of in (
      rules,
      grows_none rules rules _ (rules_are_bodies rules _ (sym count) (sym count) c.new.ensures.items),
      λ k xs less at. absurd (omega (arith, less)),
    )

pub loop-number-preserved : goal.loop-number-preserved
loop-number-preserved c =
    let rules = trees_of c.args.rules.now in
    let i = c.loop-number.number in
    let xs = either c.as_slice.result.now in
    let here : slice_get rules i ≡ Some xs =
    mapped_at alternatives_of c.args.rules.now i c.index-rules-number.result
    (slice_get_read c.args.rules.now (length c.args.rules.now) i c.index-rules-number.result refl (omega arith)
    c.index-rules-number.is) ∙ ap (λ (ys : List (Elements Lead)). Some (either ys)) (sym c.as_slice.ensures) in
    let (mid, g, before) = c.loop-number.invariant in
    let (later, h, covered) = c.in_ok-add_rule.ensures rules mid g.are_bodies (g.bodies_kept i xs here) in (
      later,
      grows_more rules rules mid later _ c.loop-number.made c.add_rule.new.made g h,
      rule_covered rules mid later c.loop-number.made c.add_rule.new.made i xs h here before covered,
    )

pub returns : goal.returns
returns c =
    let rules = trees_of c.args.rules.now in
    let (later, g, each) = c.loop-number.invariant in
    let past : length rules ≤ c.loop-number.number = omega (arith, length-map c.args.rules.now alternatives_of) in
    (later, g.are_bodies, all_covered rules later _ c.loop-number.made g (λ k xs less at. each k xs (omega (arith, less, past)) at))
