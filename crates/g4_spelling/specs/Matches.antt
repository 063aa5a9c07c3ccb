-- What the alternatives of lexer rules match at the front of a text.
use Rattle.std.specs.Prelude.{◌≤◌, ℕ, List, length, drop, Contains}
use Rattle.g4_source.specs.declared.rule.LexerAlternative.{LexerAlternative}
use Rattle.g4_source.specs.declared.rule.LexerRule.{LexerRule}
use Rattle.g4_ordered.specs.Matching.{MatchesAlone}
use Rattle.g4_ordered.specs.Network.{LexerNetwork}
use Rattle.g4_ordered.specs.Starts.{starts_of}
use Rattle.g4_ordered.specs.declared.start.Start.{Start}
use Rattle.g4_spelling.specs.Fronts.{IsAlternativeOf, DerivesFront}
use Rattle.g4_spelling.specs.Greedy.{IsWrittenGreedy}

-- one of the starts is that of alternative i of rule r
abbrev pub IsStarted : List Start → ℕ → ℕ → Type 0
IsStarted starts r i = (a : ℕ) × Contains starts (record { rule = r; alternative = i; state = a })

-- by derivation alternative i of rule r, which is one of the starts, matches the first n characters
abbrev pub MatchesDerived : List LexerRule → List Start → List ℕ → ℕ → ℕ → ℕ → Type 0
MatchesDerived rules starts text r i n = (n ≤ length text) × IsStarted starts r i
    × ((x : LexerAlternative) × IsAlternativeOf rules r i x × DerivesFront rules x.elements text (drop n text))

-- What alternative i of rule r matches: of a rule without non-greedy parts the first n characters that it derives; of any other
-- those after which the ordered list of this rule alone has the end of this alternative.
pub data Matches (rules : List LexerRule) (net : LexerNetwork) (starts : List Start) (text : List ℕ) (r i n : ℕ) : Type 0 where
  by_derivation : IsWrittenGreedy rules r → MatchesDerived rules starts text r i n → Matches rules net starts text r i n
  by_the_list : (IsWrittenGreedy rules r → ⊥) → MatchesAlone net (starts_of starts) text r i n → Matches rules net starts text r i n
