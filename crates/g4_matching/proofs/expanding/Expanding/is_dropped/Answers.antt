use Rattle.std.proofs.Common.{inl, inr, refl, sym, ◌∙◌}
use Rattle.std.proofs.lemmas.Bool.{false≢true}
use Rattle.g4_matching.proofs.Ended.{dropped_in, dropped_late, why_dropped}
use Rattle.g4_matching.proofs.expanding.Expanding.is_dropped.Goals as goal

pub returns-then-has : goal.returns-then-has
returns-then-has c = (
  (λ t. dropped_in c.args.net.now c.args.self.now.waiting.returns c.is_whole.ensures.distinct
      c.is_whole.ensures.empty c.args.in_step c.args.self.now.all c.args.entry.now (c.has.ensures.0 c.if-has.true)),
  λ d. refl,
)

pub returns-then-in_step : goal.returns-then-in_step
returns-then-in_step c = (
  (λ t. dropped_late c.args.net.now c.args.self.now.waiting.returns c.is_whole.ensures.distinct c.is_whole.ensures.empty
      c.args.in_step c.args.self.now.all c.args.entry.now c.if-in_step.true (c.is_behind_end.ensures.0 t)),
  λ d. elim (why_dropped c.args.net.now c.args.self.now.waiting.returns c.is_whole.ensures.distinct c.is_whole.ensures.empty
      c.args.in_step c.args.self.now.all c.args.entry.now c.requires.sound.listed c.requires.known d) [
        | inl i ↦ absurd (false≢true (sym c.if-has.false ∙ c.has.ensures.1 i))
        | inr late ↦ c.is_behind_end.ensures.1 late.1
      ],
)

pub returns-else-in_step : goal.returns-else-in_step
returns-else-in_step c = (
  (λ t. absurd (false≢true (sym c.if-in_step.false ∙ t))),
  λ d. elim (why_dropped c.args.net.now c.args.self.now.waiting.returns c.is_whole.ensures.distinct c.is_whole.ensures.empty
      c.args.in_step c.args.self.now.all c.args.entry.now c.requires.sound.listed c.requires.known d) [
        | inl i ↦ absurd (false≢true (sym c.if-has.false ∙ c.has.ensures.1 i))
        | inr late ↦ late.0
      ],
)
