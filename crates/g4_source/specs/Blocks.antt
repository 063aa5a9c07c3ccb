-- Rules whose blocks all have an alternative, as those of every grammar text.
use Rattle.std.specs.Prelude.{List, [], ◌∷◌}
use Rattle.g4_source.specs.Full.{AreFullAlternatives}
use Rattle.g4_source.specs.declared.rule.Rule.{Rule}
use Rattle.g4_source.specs.declared.rule.Rule.TheVariants.{Parser, Lexer}
use Rattle.g4_source.specs.declared.rule.ParserRule.{ParserRule}
use Rattle.g4_source.specs.declared.rule.LexerRule.{LexerRule}
use Rattle.g4_source.specs.declared.source.Source.{Source}
use Rattle.g4_source.specs.Rules.{bodies_of, lexer_bodies_of}

-- the parser rule and each of its blocks has an alternative
abbrev pub ParserRuleIsFull : {A : Type 0} → ParserRule A → Type 0
ParserRuleIsFull rule = AreFullAlternatives (bodies_of rule)

-- the lexer rule and each of its blocks has an alternative
abbrev pub LexerRuleIsFull : LexerRule → Type 0
LexerRuleIsFull rule = AreFullAlternatives (lexer_bodies_of rule)

-- the rule of either kind and each of its blocks has an alternative
abbrev pub RuleIsFull : Rule → Type 0
RuleIsFull (Parser rule) = ParserRuleIsFull rule
RuleIsFull (Lexer rule) = LexerRuleIsFull rule

-- the same of each rule
abbrev pub RulesAreFull : List Rule → Type 0
RulesAreFull [] = Unit {0}
RulesAreFull (rule ∷ rules) = RuleIsFull rule × RulesAreFull rules

-- the same of each parser rule
abbrev pub ParserRulesAreFull : {A : Type 0} → List (ParserRule A) → Type 0
ParserRulesAreFull [] = Unit {0}
ParserRulesAreFull (rule ∷ rules) = ParserRuleIsFull rule × ParserRulesAreFull rules

-- the same of each lexer rule
abbrev pub LexerRulesAreFull : List LexerRule → Type 0
LexerRulesAreFull [] = Unit {0}
LexerRulesAreFull (rule ∷ rules) = LexerRuleIsFull rule × LexerRulesAreFull rules

-- each rule of the grammar and each of its blocks has an alternative
abbrev pub HaveAlternatives : Source → Type 0
HaveAlternatives source = RulesAreFull source.rules
