-- What an alternative of a lexer rule, as it is written, matches at the front of a text.
use Rattle.std.specs.Prelude.{◌≡◌, ◌≤◌, ℕ, ◌+◌, List, [], ◌∷◌, ◌++◌, map, Some, slice_get, Contains}
use Rattle.std.specs.List.{repeat}
use Rattle.g4_source.specs.Elements.{Elements}
use Rattle.g4_source.specs.declared.atom.Atom.{Atom}
use Rattle.g4_source.specs.declared.rule.LexerAlternative.{LexerAlternative}
use Rattle.g4_source.specs.declared.rule.LexerRule.{LexerRule}
use Rattle.g4_source.specs.Rules.{lexer_alternatives_of}
use Rattle.g4_grammar.specs.Derives.{DerivesAll}
use Rattle.g4_net.specs.declared.network.State.{State}
use Rattle.g4_ordered.specs.declared.network.Reads.{Reads}
use Rattle.g4_lexer_rules.specs.Lexable.{CallsNamed}
use Rattle.g4_lexer_rules.specs.NetworkRules.{names_of}
use Rattle.g4_lexer_rules.specs.Starts.{rule_starts}
use Rattle.g4_spelling.specs.Marks.{Mark, character, end_of_file, ReadsMarks}

-- by these rules the elements derive the marks
abbrev pub DerivesMarks : List LexerRule → Elements Atom → List Mark → Type 0
DerivesMarks rules = DerivesAll ReadsMarks (CallsNamed (names_of rules)) (map lexer_alternatives_of rules)

-- By these rules the elements match what is in the text w before z: they derive its characters, and then the end of the file any
-- number of times, once or more only where nothing is left. So `EOF` takes no character, and matches only at the end of the file:
-- of the text `ab` the rule `A : [a-z]+ EOF ;` matches all, and not `a` alone.
pub record DerivesFront (rules : List LexerRule) (x : Elements Atom) (w z : List ℕ) : Type 0 where
  pub text : List ℕ
  pub ends : ℕ
  pub parts : w ≡ text ++ z
  pub at_end : 1 ≤ ends → z ≡ []
  pub derives : DerivesMarks rules x (map character text ++ repeat ends (end_of_file ∷ []))

-- x is alternative i of rule r; rules count from 0, alternatives from 1
abbrev pub IsAlternativeOf : List LexerRule → ℕ → ℕ → LexerAlternative → Type 0
IsAlternativeOf rules r i x = (rule : LexerRule) × (j : ℕ) × (slice_get rules r ≡ Some rule)
    × (slice_get rule.alternatives j ≡ Some x) × (i ≡ j + 1)

-- in a network with these states a match of alternative i of rule r begins at state a
abbrev pub IsLexStart : List (State Reads) → List LexerRule → ℕ → ℕ → ℕ → Type 0
IsLexStart states rules r i a = (rule : LexerRule) × (slice_get rules r ≡ Some rule)
    × Contains (rule_starts states r rule.alternatives) (record { rule = r; alternative = i; state = a })
