-- What escapes in literals and sets mean.
use Rattle.std.specs.Prelude.{ℕ, ◌+◌, ◌≤◌, Bool, false, List, [], ◌∷◌, Option, Some, None, take, drop, ◌&&◌, ◌||◌, ◌==◌, not, nat_lt, nat_le, if◌then◌else◌}
use Rattle.std.specs.Bool.{⊤}
use Rattle.std.specs.Char.{is_digit, is_ascii_alphanumeric}
use Rattle.std.specs.List.{prefix_len}
use Rattle.std.specs.Str.Parse.{digits_value}
use Rattle.g4_chars.specs.declared.escape.Escape.{Escape}
use Rattle.g4_chars.specs.declared.escape.Context.{Context}
use Rattle.g4_chars.specs.declared.escape.Meaning.{Meaning}
use Rattle.g4_chars.specs.declared.escape.Context.TheVariants.{Literal, Set}
use Rattle.g4_chars.specs.declared.escape.Meaning.TheVariants.{Character, Property}

-- a hexadecimal digit
abbrev pub is_hexadecimal : ℕ → Bool
is_hexadecimal c = is_digit c 16

-- a Unicode scalar value
abbrev pub is_scalar : ℕ → Bool
is_scalar code = nat_lt code 0xD800 || (nat_le 0xE000 code && nat_lt code 0x110000)

-- the text begins with the character
abbrev pub begins : ℕ → List ℕ → Bool
begins c [] = false
begins c (first ∷ _) = first == c

-- an escape of this many characters that means the code point, if that is a scalar value
abbrev pub coded : ℕ → ℕ → Option Escape
coded code taken = if is_scalar code then Some (record { meaning = Character code; taken = taken }) else None

-- `\uXXXX`, read from what follows the `u`
abbrev pub four_digits : List ℕ → Option Escape
four_digits text = if nat_le 4 (prefix_len is_hexadecimal text) then coded (digits_value 16 (take 4 text)) 5 else None

-- `\u{X..}` of one to six digits, read from what follows the brace
abbrev pub braced_digits : List ℕ → Option Escape
braced_digits text =
    let count = prefix_len is_hexadecimal text in
    if (nat_lt 0 count && nat_le count 6) && begins 125 (drop count text) then coded (digits_value 16 (take count text)) (count + 3)
    else None

-- `\u..`, read from what follows the `u`
abbrev pub unicode_escape : List ℕ → Option Escape
unicode_escape text = if begins 123 text then braced_digits (drop 1 text) else four_digits text

-- the name of a property holds no `}`, `]`, backslash or newline
abbrev pub is_name_part : ℕ → Bool
is_name_part c = ((not (c == 125) && not (c == 93)) && not (c == 92)) && not (c == 10)

-- `\p{Name}`, or `\P{Name}` for the complement, read from what follows the brace
abbrev pub property : Bool → List ℕ → Option Escape
property complement text =
    let count = prefix_len is_name_part text in
    if begins 125 (drop count text) then Some (record { meaning = Property complement count; taken = count + 3 }) else None

-- `\p..` or `\P..`, read from what follows the letter
abbrev pub named_escape : Bool → List ℕ → Option Escape
named_escape complement text = if begins 123 text then property complement (drop 1 text) else None

-- the character that `\n`, `\r`, `\t`, `\b` or `\f` means
abbrev pub control : ℕ → Option ℕ
control c = if c == 110 then Some 10 else (if c == 114 then Some 13
    else (if c == 116 then Some 9 else (if c == 98 then Some 8 else (if c == 102 then Some 12 else None))))

-- a literal ends with its line
abbrev pub breaks : Context → ℕ → Bool
breaks Literal c = c == 10
breaks Set c = false

-- a backslash before a character that is no ASCII letter or digit means that character
abbrev pub itself : Context → ℕ → Option Escape
itself context c = if is_ascii_alphanumeric c || breaks context c then None else Some (record { meaning = Character c; taken = 1 })

-- the escape of this character by a backslash alone
abbrev pub short_escape : Context → ℕ → Option Escape
short_escape context c = elim (control c) [ Some meant ↦ Some (record { meaning = Character meant; taken = 1 }) | None ↦ itself context c ]

-- the escape of this character and those after it, in a set, if it is not by a number
abbrev pub set_escape : ℕ → List ℕ → Option Escape
set_escape c cs = if c == 112 || c == 80 then named_escape (c == 80) cs else short_escape Set c

-- the escape of this character and those after it, if it is not by a number: only sets have properties
abbrev pub other_escape : Context → ℕ → List ℕ → Option Escape
other_escape Literal c cs = short_escape Literal c
other_escape Set c cs = set_escape c cs

-- the escape, read from what follows its backslash
abbrev pub escape : Context → List ℕ → Option Escape
escape context [] = None
escape context (c ∷ cs) = if c == 117 then unicode_escape cs else other_escape context c cs

-- the name of a property, with two characters before it and one after it, is within what belongs to the escape
abbrev pub NameIsWithin : ℕ → Meaning → Type 0
NameIsWithin taken (Character c) = ⊤
NameIsWithin taken (Property complement count) = count + 3 ≤ taken
