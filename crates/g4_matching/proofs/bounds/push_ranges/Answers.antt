use Rattle.std.proofs.Common.{get_or, ◌++◌, ◌∷◌, [], ◌+◌, ap, ◌∙◌}
use Rattle.std.proofs.lemmas.List.{get_or_default}
use Rattle.g4_chars.specs.declared.range.Range.{Range}
use Rattle.g4_matching.proofs.Collected.{one_range}
use Rattle.g4_matching.proofs.bounds.push_ranges.Goals as goal

pub loop-range-preserved : goal.loop-range-preserved
loop-range-preserved c =
    let none : Range = record { first = 0; last = 0 } in
    let rs = c.args.ranges.now in
    let r = get_or rs c.loop-range.range-index none in
    one_range c.loop-range.bounds.items c.push-in-loop-range.new.self.items c.args.bounds.now.items rs c.loop-range.range-index r
    c.loop-range-test.true (get_or_default rs c.loop-range.range-index none r c.loop-range-test.true) c.loop-range.invariant
    (c.in_ok-push-2.ensures.items ∙ ap (λ l. l ++ (r.last + 1) ∷ []) c.in_ok-push.ensures.items)
