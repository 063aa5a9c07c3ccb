-- The tokens that commands of lexer rules name, rule by rule.
use Rattle.std.proofs.Common.{◌≡◌, List, [], ◌∷◌, ◌++◌, refl, ap}
use Rattle.std.specs.List.{flat_map}
use Rattle.g4_source.specs.declared.atom.TokenReference.{TokenReference}
use Rattle.g4_source.specs.declared.rule.Rule.{Rule}
use Rattle.g4_source.specs.declared.rule.Rule.TheVariants.{Parser, Lexer}
use Rattle.g4_source.specs.Rules.{lexer_rules}
use Rattle.g4_vocab.specs.Numbering.{all_commanded, commanded_by}

-- the tokens that commands of a rule name, where it is a lexer rule
abbrev pub rule_commanded : Rule → List TokenReference
rule_commanded (Parser rule) = []
rule_commanded (Lexer rule) = flat_map commanded_by rule.alternatives

-- rules
pub rules_commanded : (rules : List Rule) → all_commanded (lexer_rules rules) ≡ flat_map rule_commanded rules
rules_commanded [] = refl
rules_commanded (Parser rule ∷ rules) = rules_commanded rules
rules_commanded (Lexer rule ∷ rules) = ap (λ (zs : List TokenReference). flat_map commanded_by rule.alternatives ++ zs)
    (rules_commanded rules)
