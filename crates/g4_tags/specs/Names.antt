-- Names, as a grammar has them.
use Rattle.std.specs.Prelude.{◌≡◌, ℕ, List, [], ◌∷◌, true, Option, Some, None}
use Rattle.std.specs.List.{AllPass}
use Rattle.unicode.specs.Binary.{is_alphabetic}
use Rattle.g4_grammar_tokens.specs.Characters.{is_name_part}

-- a letter, and then letters, digits and `_`
abbrev pub IsName : List ℕ → Type 0
IsName [] = ⊥
IsName (c ∷ cs) = (is_alphabetic c ≡ true) × AllPass is_name_part cs

-- a label is a name, where there is one
abbrev pub IsLabel : Option (List ℕ) → Type 0
IsLabel None = Unit {0}
IsLabel (Some label) = IsName label
