-- Positions in a file.
use Rattle.std.specs.Prelude.{ℕ, ◌+◌, List, length, encode_utf8_all}
use Rattle.g4_base.specs.Place.{first_place, place_after}
use Rattle.g4_lexer.specs.declared.position.Position.{Position}

-- the start of a file
abbrev pub first_position : Position
first_position = record { offset = 0; place = first_place }

-- the position after some characters
abbrev pub position_after : Position → List ℕ → Position
position_after p w = record { offset = p.offset + length (encode_utf8_all w); place = place_after p.place w }
