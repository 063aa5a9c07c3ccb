use Rattle.std.proofs.Common.{◌∙◌, ℕ, ap, refl, sym}
use Rattle.g4_run.specs.Running.{failed_predicate}
use Rattle.g4_parse.proofs.Turns.{held}
use Rattle.g4_parse.proofs.parser.Parser.pass_predicate.Goals as goal

pub returns-then-not-holds : goal.returns-then-not-holds
returns-then-not-holds g c = λ net word r h.
    let newest = c.newest.ensures r h in (
      sym (held (g.P.Predicates.values c.args.predicates.now) r c.args.self.now c.deref.result.now c.args.predicate c.deref.ensures.value h)
          ∙ sym c.holds.ensures ∙ c.if-not-holds.true,
      ap (λ (at : ℕ). failed_predicate at c.newest.result.rule) h.place ∙ ap (failed_predicate r.place) newest.0,
    )

pub returns : goal.returns
returns g c = λ net word r h. (
  record { state = c.args.target; place = r.place; frames = r.frames; tree = r.tree },
  (
    sym (held (g.P.Predicates.values c.args.predicates.now) r c.args.self.now c.deref.result.now c.args.predicate c.deref.ensures.value h)
        ∙ sym c.holds.ensures ∙ c.if-not-holds.false,
    refl,
  ),
  record { state = refl; place = h.place; returns = h.returns; opened = h.opened; tree = h.tree },
)
