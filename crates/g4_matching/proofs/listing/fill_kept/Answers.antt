use Rattle.std.proofs.Common.{◌+◌, subst, sym, ap, ◌∙◌}
use Rattle.std.proofs.lemmas.Bool.{false≢true}
use Rattle.g4_ordered.specs.Lists.{no_more}
use Rattle.g4_matching.proofs.Telling.{KeepsSoFar, keep_one, leave_one}
use Rattle.g4_matching.proofs.listing.fill_kept.Goals as goal
use Rattle.g4_matching.proofs.listing.fill_kept.Goals.{then-is_kept+in_ok-push, else-is_kept}

pub loop-entry-init : goal.loop-entry-init
loop-entry-init c = rw c.clear.ensures.items ((λ e i. absurd i), no_more)

pub loop-entry-preserved : goal.loop-entry-preserved
loop-entry-preserved c = elim c.if-is_kept.branch [
  | then-is_kept+in_ok-push w ↦ keep_one c.args.net.now c.args.returns.now c.is_whole.ensures.distinct c.is_whole.ensures.empty
      c.args.all.now c.requires c.loop-entry.entry-index c.loop-entry-test.true c.loop-entry.list.items c.if-is_kept.list.items
      (c.is_kept.ensures.0 w.if-is_kept.true) (ap (λ v. v.items) w.list-is ∙ w.in_ok-push.ensures.items) c.loop-entry.invariant
  | else-is_kept w ↦ subst (KeepsSoFar c.args.net.now c.args.returns.now c.is_whole.ensures.distinct c.is_whole.ensures.empty
      c.args.all.now c.requires c.loop-entry.entry-index c.loop-entry-test.true (c.loop-entry.entry-index + 1))
      (sym (ap (λ v. v.items) w.list-is))
      (leave_one c.args.net.now c.args.returns.now c.is_whole.ensures.distinct c.is_whole.ensures.empty c.args.all.now c.requires
      c.loop-entry.entry-index c.loop-entry-test.true c.loop-entry.list.items
      (λ k. false≢true (sym w.if-is_kept.false ∙ c.is_kept.ensures.1 k)) c.loop-entry.invariant)
]
