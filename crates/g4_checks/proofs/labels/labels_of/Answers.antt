use Rattle.std.proofs.Common.{ℕ, List}
use Rattle.std.specs.Borrow.{Bor}
use Rattle.g4_checks.specs.Labels.{label_of}
use Rattle.g4_source.proofs.Lists.{pushed, picks_more, picks_same}
use Rattle.g4_checks.proofs.labels.labels_of.Goals.{in-Some+in_ok-push-in-Some, in-None}
use Rattle.g4_checks.proofs.labels.labels_of.Goals as goal

pub loop-alternative-preserved : goal.loop-alternative-preserved
loop-alternative-preserved c =
    let items = c.as_slice-alternative-items.result.now in
    elim c.match-alternative.branch [
      | in-Some+in_ok-push-in-Some w ↦
          rw w.labels-is
          (picks_more label_of items c.loop-alternative.alternative-index c.alternative-item.result _ c.loop-alternative-test.true
          c.alternative-item.is c.loop-alternative.invariant w.in-Some.label _
          w.in-Some.is
          (pushed (λ (x : Bor (List ℕ)). x.now) w.in-Some.label c.loop-alternative.labels.items _
          w.in_ok-push-in-Some.ensures.items w.as_str.ensures))
      | in-None w ↦
          rw w.labels-is
          (picks_same label_of items c.loop-alternative.alternative-index c.alternative-item.result _ c.loop-alternative-test.true
          c.alternative-item.is c.loop-alternative.invariant w.in-None.is)
    ]
