use Rattle.std.proofs.Common.{rules}
use Rattle.g4_configs.specs.Verdicts.{HasAlternative}
use Rattle.g4_configs.proofs.verdicts.is_like.Goals as goal

pub returns-else-group-first : goal.returns-else-group-first
returns-else-group-first c =
    let here : HasAlternative c.args.nodes.now.entries c.args.group.state c.args.group.stacks c.args.first = search rules in
    let there : HasAlternative c.args.nodes.now.entries c.args.first.state c.args.first.stacks c.args.group = search rules in (
      (λ t. record { here = here; there = there; each = λ e. c.has_each.ensures.0 t }),
      (λ like. c.has_each.ensures.1 (like.each c.if-group-first.false)),
    )
