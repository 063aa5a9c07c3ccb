-- Rules that are lent.
use Rattle.g4_source.specs.declared.rule.Rule.{Rule}
use Rattle.g4_source.specs.declared.rule.Rule.TheVariants as rules
use Rattle.g4_source.specs.declared.rules.RuleView.{RuleView}
use Rattle.g4_source.specs.declared.rules.RuleView.TheVariants.{Parser, Lexer}

-- the rule that is lent
abbrev pub rule_view : RuleView → Rule
rule_view (Parser rule) = rules.Parser rule.now
rule_view (Lexer rule) = rules.Lexer rule.now
