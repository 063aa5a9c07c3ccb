use Rattle.std.proofs.Common.{map, sym, ◌∙◌}
use Rattle.g4_vocab.specs.Tables.{reference_of}
use Rattle.g4_vocab.proofs.CommandedTokens.{rule_commanded, rules_commanded}
use Rattle.g4_vocab.proofs.Lists.{parts_all}
use Rattle.g4_vocab.proofs.commanded.commanded_of.Goals as goal

pub returns : goal.returns
returns c = parts_all rule_commanded c.args.rules.now c.loop-rule.rule-index (map reference_of c.loop-rule.found.items) _
    c.loop-rule-test.false c.loop-rule.invariant ∙ sym (rules_commanded c.args.rules.now)
