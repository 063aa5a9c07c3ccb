-- Symbols and sets of symbols as they are shown.
use Rattle.std.specs.Prelude.{ℕ, ◌-◌, List, [], ◌∷◌, ◌++◌, Option, Some, None, cond, ◌==◌, codes, slice_get}
use Rattle.std.specs.List.{flat_map}
use Rattle.g4_tokens.specs.Symbols.{eof, end_of_list}

-- a text, or nothing
abbrev pub or_nothing : Option (List ℕ) → List ℕ
or_nothing None = []
or_nothing (Some text) = text

-- what is shown of a symbol: EOF, or what is shown of its type, where these are shown of the types from 1 on
abbrev pub shown_symbol : List (List ℕ) → ℕ → List ℕ
shown_symbol types a = cond (a == eof) (codes "EOF") (cond (a == end_of_list) (codes "EOF") (or_nothing (slice_get types (a - 1))))

-- more shown symbols, `, ` before each
abbrev pub more_symbols : List (List ℕ) → List ℕ → List ℕ
more_symbols types symbols = flat_map (λ a. codes ", " ++ shown_symbol types a) symbols

-- what is shown of a set: its one symbol, or all of them in braces
abbrev pub shown_set : List (List ℕ) → List ℕ → List ℕ
shown_set types [] = codes "{}"
shown_set types (a ∷ []) = shown_symbol types a
shown_set types (a ∷ b ∷ more) = ((codes "{" ++ shown_symbol types a) ++ more_symbols types (b ∷ more)) ++ codes "}"
