use Rattle.std.proofs.Common.{sym, ◌∙◌}
use Rattle.g4_source.specs.declared.rules.RuleView.{RuleView}
use Rattle.g4_checks.specs.Commands.{rule_commands}
use Rattle.g4_source.specs.Views.{rule_view}
use Rattle.g4_source.proofs.Lists.{parts_all, parts-map}
use Rattle.g4_checks.proofs.commands.commands_of.Goals as goal

pub returns : goal.returns
returns c =
    parts_all (λ (x : RuleView). rule_commands (rule_view x)) c.args.rules.now c.loop-rule.rule-index _ _ c.loop-rule-test.false
    c.loop-rule.invariant ∙ sym (parts-map rule_commands rule_view c.args.rules.now)
