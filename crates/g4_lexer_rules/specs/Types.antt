-- The token types of lexer rules, by their names.
use Rattle.std.specs.Prelude.{ℕ, cond}
use Rattle.std.specs.Option.{unwrap_or}
use Rattle.g4_source.specs.declared.rule.LexerRule.{LexerRule}
use Rattle.g4_names.specs.declared.places.Places.{Places}
use Rattle.g4_names.specs.Places.{place_in}

-- the type that these places have for the name of a lexer rule, or 0, where they have none; a fragment has none, which is 0 too
abbrev pub type_by_names : Places → LexerRule → ℕ
type_by_names places rule = cond rule.fragment 0 (unwrap_or (place_in places rule.name) 0)
