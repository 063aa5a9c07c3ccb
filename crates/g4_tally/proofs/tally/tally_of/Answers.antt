use Rattle.std.proofs.Common.{subst, sym, ◌∙◌}
use Rattle.g4_store.specs.Words.{Stands}
use Rattle.g4_tally.specs.Counts.{AreFilled}
use Rattle.g4_tally.proofs.Tallied.{counts_are, has_more}
use Rattle.g4_tally.proofs.tally.tally_of.Goals as goal

pub returns-in-Ok : goal.returns-in-Ok
returns-in-Ok g c = λ inputs symbols passed.
    let listing = c.in-Ok.field-0 in
    has_more g.B.Home.plan c.in-Ok.ensures.plan.1 c.args.pass c.requires.whole listing.words.items listing.rows.items c.in-Ok.ensures.closes
    inputs symbols passed (passed.short (sym c.was_full-full.ensures ∙ c.if-full.true))

pub returns-in-Ok-2 : goal.returns-in-Ok-2
returns-in-Ok-2 g c = λ inputs symbols passed.
    let listing = c.in-Ok.field-0 in
    let are = subst (λ p. AreFilled (Stands p listing.words.items listing.rows.items) c.counts_of.result) c.in-Ok.ensures.plan.0
    c.counts_of.ensures in
    counts_are g.B.Home.plan c.in-Ok.ensures.plan.1 c.args.pass c.requires.whole listing.words.items listing.rows.items
    c.in-Ok.ensures.closes inputs symbols passed (sym c.was_full-full.ensures ∙ c.if-full.false) c.counts_of.result are
