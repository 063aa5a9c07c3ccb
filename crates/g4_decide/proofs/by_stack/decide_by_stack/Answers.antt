use Rattle.std.proofs.Common.{refl, reverse, arith}
use Rattle.g4_full.specs.declared.full.Settled.TheVariants.{Chosen, NoViable}
use Rattle.g4_learned.proofs.Rests.{ends_ahead}
use Rattle.g4_decide.proofs.Choosing.{stack_chooses, stack_shows, within_tokens}
use Rattle.g4_decide.proofs.by_stack.decide_by_stack.Goals as goal

pub settle_over-requires-clause-ends : goal.settle_over-requires-clause-ends
settle_over-requires-clause-ends c = ends_ahead c.args.from c.args.tokens.now c.requires.ends c.requires.more

pub overflow_add-result : goal.overflow_add-result
overflow_add-result c =
    let shows = stack_shows c.args.net.now c.args.decision c.args.from (reverse c.args.returns.now) c.args.tokens.now c.args.allowed.now
    c.requires.many c.in_ok-alternative.field-0 (NoViable c.in-NoViable.k) c.in-NoViable.is c.in_ok-alternative.ensures in
    let less = within_tokens c.args.from c.in-NoViable.k c.args.tokens.now c.requires.more shows in
    omega (arith, c.requires.few)

pub returns-in-Chosen : goal.returns-in-Chosen
returns-in-Chosen c = (
  stack_chooses c.args.net.now c.args.decision c.args.from (reverse c.args.returns.now) c.args.tokens.now c.args.allowed.now
      c.requires.many c.in_ok-alternative.field-0 (Chosen c.in-Chosen.alternative) c.in-Chosen.is c.in_ok-alternative.ensures,
  stack_shows c.args.net.now c.args.decision c.args.from (reverse c.args.returns.now) c.args.tokens.now c.args.allowed.now
      c.requires.many c.in_ok-alternative.field-0 (Chosen c.in-Chosen.alternative) c.in-Chosen.is c.in_ok-alternative.ensures,
)

pub returns-in-NoViable : goal.returns-in-NoViable
returns-in-NoViable c = (
  c.in-NoViable.k,
  stack_chooses c.args.net.now c.args.decision c.args.from (reverse c.args.returns.now) c.args.tokens.now c.args.allowed.now
      c.requires.many c.in_ok-alternative.field-0 (NoViable c.in-NoViable.k) c.in-NoViable.is c.in_ok-alternative.ensures,
  refl,
)
