-- Where the pieces of a text begin.
use Rattle.std.specs.Prelude.{ℕ, ◌+◌, List, map, sum}
use Rattle.std.specs.Char.{len_utf8}
use Rattle.g4_base.specs.Place.{place_after}
use Rattle.g4_grammar_tokens.specs.declared.position.Position.{Position}

-- how many bytes the characters take in UTF-8
abbrev pub byte_count : List ℕ → ℕ
byte_count characters = sum (map len_utf8 characters)

-- the position after these characters
abbrev pub position_past : Position → List ℕ → Position
position_past p characters = record { place = place_after p.place characters; index = p.index + byte_count characters }
