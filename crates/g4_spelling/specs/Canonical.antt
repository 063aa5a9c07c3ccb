-- Lexer rules whose sets of characters are as every set of the code is.
use Rattle.std.specs.Prelude.{◌≡◌, ℕ, List, Some, slice_get, All}
use Rattle.g4_source.specs.Elements.{atoms_of_either}
use Rattle.g4_source.specs.declared.rule.LexerRule.{LexerRule}
use Rattle.g4_source.specs.Rules.{lexer_alternatives_of}
use Rattle.g4_lexer_rules.specs.Steps.{SetIsCanonical}

-- each set of each of the rules is in its one form
abbrev pub SetsAreCanonical : List LexerRule → Type 0
SetsAreCanonical rules = (r : ℕ) (rule : LexerRule) → slice_get rules r ≡ Some rule
    → All (λ a. SetIsCanonical a.kind) (atoms_of_either (lexer_alternatives_of rule))
