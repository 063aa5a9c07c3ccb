use Rattle.std.proofs.Common.{ℕ, List, [], get_or, refl, sym, ◌∙◌}
use Rattle.std.specs.Borrow.{Bor}
use Rattle.std.proofs.lemmas.Bool.{both_ways}
use Rattle.std.proofs.lemmas.List.{get_or_default}
use Rattle.g4_checks.specs.Labels.{IsClash}
use Rattle.g4_checks.specs.Views.{clashes_in}
use Rattle.g4_source.proofs.Firsts.{one_passed, one_reported, all_passed}
use Rattle.g4_checks.proofs.clashes.first_clash.Goals as goal

pub returns-then-has : goal.returns-then-has
returns-then-has c =
    let labels = c.args.labels.now in
    let none : Bor (List ℕ) = record { ref_ptr = (0, 0); now = [] } in
    let label = get_or labels c.loop-label.label-index none in
    let item = get_or_default labels c.loop-label.label-index none label c.loop-label-test.true in
    one_reported (IsClash (clashes_in c.args.clashing.now)) (λ (x : Bor (List ℕ)). x.now) labels c.loop-label.label-index label
    label.now c.loop-label-test.true item (refl, sym c.has.ensures ∙ c.if-has.true) c.loop-label.invariant

pub loop-label-preserved : goal.loop-label-preserved
loop-label-preserved c =
    let labels = c.args.labels.now in
    let none : Bor (List ℕ) = record { ref_ptr = (0, 0); now = [] } in
    let label = get_or labels c.loop-label.label-index none in
    let item = get_or_default labels c.loop-label.label-index none label c.loop-label-test.true in
    one_passed (IsClash (clashes_in c.args.clashing.now)) (λ (x : Bor (List ℕ)). x.now) labels c.loop-label.label-index label
    c.loop-label-test.true item (λ n told. both_ways (clashes_in c.args.clashing.now label.now)
    (sym c.has.ensures ∙ c.if-has.false) told.1) c.loop-label.invariant

pub returns : goal.returns
returns c =
    all_passed (IsClash (clashes_in c.args.clashing.now)) (λ (x : Bor (List ℕ)). x.now) c.args.labels.now c.loop-label.label-index
    c.loop-label-test.false c.loop-label.invariant
