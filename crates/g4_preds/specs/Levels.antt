-- What is open after some tokens of a predicate, for the contracts of the functions that count it; how deep a predicate is nested,
-- `Nesting` says.
use Rattle.std.specs.Prelude.{ℕ, ◌+◌, List, [], ◌∷◌, drop, max}
use Rattle.g4_preds.specs.declared.nesting.Nesting.{Nesting}
use Rattle.g4_preds.specs.declared.token.Token.{Token}
use Rattle.g4_preds.specs.declared.token.Token.TheVariants.{LeftParenthesis, RightParenthesis, Exclamation, DoubleAmpersand, DoubleBar}

-- how many `(` and `!` are open, how many were with each `(` that is open, newest first, and how many were open at most
pub record Levels : Type 0 where
  pub current : ℕ
  pub bases : List ℕ
  pub most : ℕ

abbrev pub levels_of : Nesting → Levels
levels_of n = record { current = n.current; bases = n.bases; most = n.most }

-- before the first token
abbrev pub none_open : Levels
none_open = record { current = 0; bases = []; most = 0 }

-- how many stay open at the end of an operand
abbrev pub base : List ℕ → ℕ
base [] = 0
base (count ∷ counts) = count

-- with one more open
abbrev pub deeper : Levels → Levels
deeper s = record { current = s.current + 1; bases = s.bases; most = max s.most (s.current + 1) }

-- in a parenthesis that opens
abbrev pub in_parenthesis : Levels → Levels
in_parenthesis s = record { current = s.current; bases = s.current ∷ s.bases; most = s.most }

-- with as many open as these
abbrev pub back_to : List ℕ → Levels → Levels
back_to bases s = record { current = base bases; bases = bases; most = s.most }

-- after one more token
abbrev pub past : Token → Levels → Levels
past Exclamation s = deeper s
past LeftParenthesis s = in_parenthesis (deeper s)
past RightParenthesis s = back_to (drop 1 s.bases) s
past DoubleAmpersand s = back_to s.bases s
past DoubleBar s = back_to s.bases s
past token s = s
