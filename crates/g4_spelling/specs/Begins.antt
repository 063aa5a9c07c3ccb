-- With which alternatives a match in a mode may begin, as the rules are written.
use Rattle.std.specs.Prelude.{◌≡◌, ◌<◌, ◌⊎◌, ℕ, List, length, true, Some, slice_get, false}
use Rattle.g4_source.specs.declared.rule.LexerAlternative.{LexerAlternative}
use Rattle.g4_source.specs.declared.rule.LexerRule.{LexerRule}
use Rattle.g4_lexer_rules.specs.NetworkRules.{all_rules}
use Rattle.g4_lexer_rules.specs.Starts.{is_in_mode}
use Rattle.g4_spelling.specs.Fronts.{IsAlternativeOf}

-- a match in mode m of these modes may begin with alternative i of rule r: the rule is that of a literal or one of the mode, and no
-- fragment
pub record MayBegin (literals others : List LexerRule) (modes : List (List ℕ)) (m r i : ℕ) : Type 0 where
  pub rule : LexerRule
  pub at : slice_get (all_rules literals others) r ≡ Some rule
  pub whole : rule.fragment ≡ false
  pub whose : (r < length literals) ⊎ (is_in_mode modes m rule ≡ true)
  pub alternative : (x : LexerAlternative) × IsAlternativeOf (all_rules literals others) r i x
