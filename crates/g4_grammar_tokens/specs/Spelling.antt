-- The characters that literals represent.
use Rattle.std.specs.Prelude.{ℕ, zero, suc, List, [], ◌∷◌, Option, Some, None, drop, ◌==◌, if◌then◌else◌}
use Rattle.g4_chars.specs.Escapes.{escape}
use Rattle.g4_chars.specs.declared.escape.Context.TheVariants.{Literal}
use Rattle.g4_chars.specs.declared.escape.Meaning.{Meaning}
use Rattle.g4_chars.specs.declared.escape.Meaning.TheVariants.{Character, Property}
use Rattle.g4_grammar_tokens.specs.declared.spelling.SpelledCharacter.{SpelledCharacter}

-- the character that is meant: a property means none
abbrev pub meant : Meaning → Option ℕ
meant (Character c) = Some c
meant (Property complement count) = None

-- the character that an escape means, given what follows its backslash
abbrev pub escaped : List ℕ → Option SpelledCharacter
escaped rest =
    elim (escape Literal rest) [
      | Some e ↦ elim (meant e.meaning) [ Some c ↦ Some (record { character = c; more = e.taken }) | None ↦ None ]
      | None ↦ None
    ]

-- the character that this one means in a literal, and how many after it belong to it: None at the quote that closes, and at
-- a bad escape
abbrev pub spelled : ℕ → List ℕ → Option SpelledCharacter
spelled c rest = if c == 39 then None else (if c == 92 then escaped rest else Some (record { character = c; more = 0 }))

-- the characters that the text spells up to the quote that closes, or a bad escape; the first are passed over
abbrev pub spelling_from : ℕ → List ℕ → List ℕ
spelling_from skip [] = []
spelling_from (suc skip) (c ∷ cs) = spelling_from skip cs
spelling_from zero (c ∷ cs) = elim (spelled c cs) [ Some s ↦ s.character ∷ spelling_from s.more cs | None ↦ [] ]

-- the characters that a literal represents: those between its quotes, with its escapes read
abbrev pub literal_spelling : List ℕ → List ℕ
literal_spelling literal = spelling_from 0 (drop 1 literal)
