-- What is found.
use Rattle.std.specs.Prelude.{ℕ, List, Option, Some, None, MatchOption}
use Rattle.g4_ordered.specs.Network.{LexerNetwork}
use Rattle.g4_ordered.specs.Configurations.{LexerConfig}
use Rattle.g4_ordered.specs.Matching.{IsMatch, NoMatch}
use Rattle.g4_matching.specs.declared.found.Match.{Match}
use Rattle.g4_matching.specs.declared.rule_end.RuleEnd.{RuleEnd}

-- the match at the front of the text, or that there is none
abbrev pub IsFound : LexerNetwork → List LexerConfig → List ℕ → Option Match → Type 0
IsFound net starts text found = MatchOption found (NoMatch net starts text) (λ m. IsMatch net starts text m.length m.rule m.alternative)

-- the best match so far is that of the list after `length` characters, if that gives an end
abbrev pub best_after : Option Match → ℕ → Option RuleEnd → Option Match
best_after best length None = best
best_after best length (Some end) = Some (record { length = length; rule = end.rule; alternative = end.alternative })
