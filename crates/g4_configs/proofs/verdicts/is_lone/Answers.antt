use Rattle.std.proofs.Common.{true≢false, sym, ◌∙◌}
use Rattle.g4_configs.proofs.Lone.{lone_between, lone_first, lone_last, not_true, true_not}
use Rattle.g4_configs.proofs.verdicts.is_lone.Goals as goal

pub returns-then-not-follows : goal.returns-then-not-follows
returns-then-not-follows c = (
  (λ t. lone_between c.args.groups.now c.requires.ascending c.args.index c.requires.within
      (λ f. true≢false (sym (c.follows.ensures.1 f) ∙ c.if-not-follows.true))
      (λ f. not_true c.follows-then-not-follows.result t (c.follows-then-not-follows.ensures.1 f))),
  (λ lone. true_not c.follows-then-not-follows.result
      (λ f. lone_last c.args.groups.now c.requires.ascending c.args.index c.requires.within lone (c.follows-then-not-follows.ensures.0 f))),
)

pub returns-else-not-follows : goal.returns-else-not-follows
returns-else-not-follows c = (
  (λ t. absurd (not_true c.follows.result t c.if-not-follows.false)),
  (λ lone. true_not c.follows.result (λ f. lone_first c.args.groups.now c.requires.ascending c.args.index c.requires.within lone
      (c.follows.ensures.0 f))),
)
