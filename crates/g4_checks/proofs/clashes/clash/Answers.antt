use Rattle.std.proofs.Common.{ℕ, List, map, option_map, subst, sym, ap, ◌∙◌}
use Rattle.std.specs.Borrow.{Bor}
use Rattle.g4_source.specs.First.{FindsFirst}
use Rattle.g4_checks.specs.Labels.{IsClash, are_partly_labelled}
use Rattle.g4_checks.specs.Views.{clashes_in}
use Rattle.g4_checks.proofs.FirstClash.{clash_of_labels}
use Rattle.g4_checks.proofs.clashes.clash.Goals as goal

pub returns : goal.returns
returns c =
    let test = clashes_in c.args.clashing.now in
    let found = option_map (λ (n : Bor (List ℕ)). n.now) c.first_clash.result in
    clash_of_labels test c.args.rule.now found (ap are_partly_labelled (sym c.as_slice.ensures)
    ∙ (sym c.are_partly_labelled.ensures ∙ c.if-are_partly_labelled.false))
    (subst (λ (labels : List (List ℕ)). FindsFirst (IsClash test) labels found)
    (ap (map (λ (n : Bor (List ℕ)). n.now)) c.as_slice-2.ensures.value ∙ c.in_ok-labels.ensures) c.first_clash.ensures)
