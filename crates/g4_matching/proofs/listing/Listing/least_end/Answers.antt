use Rattle.std.proofs.Common.{subst, sym, ◌∙◌}
use Rattle.std.proofs.lemmas.Bool.{false≢true}
use Rattle.g4_matching.specs.Entries.{AreKnown}
use Rattle.g4_matching.proofs.Telling.{tell_same, tell_new}
use Rattle.g4_matching.proofs.listing.Listing.least_end.Goals as goal

pub loop-entry-preserved-then-not-is_at_end : goal.loop-entry-preserved-then-not-is_at_end
loop-entry-preserved-then-not-is_at_end c =
    let known : AreKnown c.args.self.now.expanding.waiting.returns c.as_slice-entry-items.result.now =
    subst (AreKnown c.args.self.now.expanding.waiting.returns) (sym c.as_slice-entry-items.ensures.value) c.requires in
    tell_same c.args.net.now _ c.is_whole.ensures.distinct c.is_whole.ensures.empty _ known _ c.loop-entry-test.true c.loop-entry.best
    (λ end. absurd (false≢true (sym c.if-not-is_at_end.true ∙ c.is_at_end.ensures.1 end))) c.loop-entry.invariant

pub loop-entry-preserved-then-is_as_good : goal.loop-entry-preserved-then-is_as_good
loop-entry-preserved-then-is_as_good c =
    let known : AreKnown c.args.self.now.expanding.waiting.returns c.as_slice-entry-items.result.now =
    subst (AreKnown c.args.self.now.expanding.waiting.returns) (sym c.as_slice-entry-items.ensures.value) c.requires in
    tell_same c.args.net.now _ c.is_whole.ensures.distinct c.is_whole.ensures.empty _ known _ c.loop-entry-test.true c.loop-entry.best
    (λ end. c.is_as_good.ensures.0 c.if-is_as_good.true) c.loop-entry.invariant

pub loop-entry-preserved : goal.loop-entry-preserved
loop-entry-preserved c =
    let known : AreKnown c.args.self.now.expanding.waiting.returns c.as_slice-entry-items.result.now =
    subst (AreKnown c.args.self.now.expanding.waiting.returns) (sym c.as_slice-entry-items.ensures.value) c.requires in
    tell_new c.args.net.now _ c.is_whole.ensures.distinct c.is_whole.ensures.empty _ known _ c.loop-entry-test.true c.loop-entry.best
    (c.is_at_end.ensures.0 c.if-not-is_at_end.false)
    (λ good. false≢true (sym c.if-is_as_good.false ∙ c.is_as_good.ensures.1 good)) c.loop-entry.invariant
