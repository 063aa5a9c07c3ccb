-- The classes of characters of a grammar text.
use Rattle.std.specs.Prelude.{ℕ, Bool, true, false, List, [], ◌∷◌, ◌||◌, ◌==◌, not}
use Rattle.std.specs.Char.{is_ascii_digit}
use Rattle.unicode.specs.Binary.{is_alphabetic}
use Rattle.ucd_category.specs.GeneralCategory.{general_category}
use Rattle.ucd_category.specs.declared.GeneralCategory.{GeneralCategory}
use Rattle.ucd_category.specs.declared.GeneralCategory.TheVariants.{UppercaseLetter}

-- the category is that of upper-case letters
abbrev pub is_uppercase_letter : GeneralCategory → Bool
is_uppercase_letter UppercaseLetter = true
is_uppercase_letter _ = false

-- a letter that begins an upper-case name
abbrev pub is_upper : ℕ → Bool
is_upper c = is_uppercase_letter (general_category c)

-- a letter, a digit or `_`
abbrev pub is_name_part : ℕ → Bool
is_name_part c = (is_alphabetic c || is_ascii_digit c) || (c == 95)

-- a space, tab, newline, return or form feed
abbrev pub is_blank : ℕ → Bool
is_blank c = (((c == 32 || c == 9) || c == 10) || c == 13) || c == 12

-- the character is on a line, and does not end it
abbrev pub is_in_line : ℕ → Bool
is_in_line c = not (c == 10)

-- the text begins with the character
abbrev pub begins : ℕ → List ℕ → Bool
begins c [] = false
begins c (first ∷ _) = first == c
