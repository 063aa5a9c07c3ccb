use Rattle.std.proofs.Common.{ℕ, List, [], map, get_or, refl, sym, ap, subst, ◌∙◌}
use Rattle.std.specs.Borrow.{Bor}
use Rattle.std.proofs.lemmas.List.{get_or_default, take_all}
use Rattle.g4_checks.specs.Known.{Counting}
use Rattle.g4_checks.specs.Names.{is_one_of}
use Rattle.g4_checks.proofs.Counting.{counting_none, counts_more}
use Rattle.g4_checks.proofs.Known.{adds_next}
use Rattle.g4_checks.proofs.labels.LabelSets.add_rule.Goals as goal

pub loop-label-init : goal.loop-label-init
loop-label-init c =
    let self = c.args.self.now in (
      λ text. ap (λ (names : List (List ℕ)). is_one_of names text) c.new-own.ensures,
      subst (λ (own : List (List ℕ)). Counting self.once self.again own self.once self.again) (sym c.new-own.ensures)
          (counting_none self.once self.again),
    )

pub loop-label-preserved : goal.loop-label-preserved
loop-label-preserved c =
    let labels = c.deref-label-items.result.now in
    let none : Bor (List ℕ) = record { ref_ptr = (0, 0); now = [] } in
    let label = get_or labels c.loop-label.label-index none in
    let item = get_or_default labels c.loop-label.label-index none label c.loop-label-test.true in (
      adds_next (λ (x : Bor (List ℕ)). x.now) [] [] labels c.loop-label.label-index label label.now c.loop-label.own
          c.add_label.new.own c.loop-label-test.true item refl c.loop-label.invariant.0 c.in_ok-add_label.ensures.own,
      c.in_ok-add_label.ensures.counting c.args.self.now.once c.args.self.now.again c.loop-label.invariant.1,
    )

pub returns : goal.returns
returns c =
    let labels = ap (map (λ (x : Bor (List ℕ)). x.now))
    (take_all c.loop-label.label-index c.deref-label-items.result.now c.loop-label-test.false ∙ c.deref-label-items.ensures.value)
    ∙ c.in_ok-labels.ensures in
    λ rules counts. counts_more rules c.args.rule.now c.args.self.now.once c.args.self.now.again c.loop-label.own
    c.loop-label.self.once c.loop-label.self.again counts c.loop-label.invariant.1
    (λ n. c.loop-label.invariant.0 n ∙ ap (λ (names : List (List ℕ)). is_one_of names n) labels)
