-- Lines, cut into the parts that are added one after another.
use Rattle.std.proofs.Common.{◌≡◌, ℕ, List, [], ◌++◌, codes, append_assoc}
use Rattle.g4_base.specs.declared.place.Place.{Place}
use Rattle.g4_tokens.specs.declared.token.Token.{Token}
use Rattle.g4_trees.specs.TreeText.{token_text}
use Rattle.g4_trees.specs.TokenLines.{channel_text, end_line, place_text, symbol_text, token_line}

-- the beginning of a line, before the text of its token
abbrev pub line_start : List ℕ → Place → List ℕ → List ℕ
line_start name place shown = name ++ (codes ": " ++ (place_text place ++ (codes " " ++ (shown ++ codes " '"))))

-- its end, after the text of its token
abbrev pub line_tail : ℕ → List ℕ
line_tail channel = codes "'" ++ (channel_text channel ++ codes "\n")

-- the line of a token
pub line_parts : (shown : List (List ℕ)) (name bytes : List ℕ) (token : Token)
    → line_start name token.place (symbol_text shown token.symbol) ++ (token_text bytes token ++ line_tail token.channel)
    ≡ token_line shown name bytes token
line_parts shown name bytes token = simp append_assoc

-- the line of the end of a file
pub end_parts : (name : List ℕ) (place : Place) → line_start name place (codes "EOF") ++ (codes "<EOF>'\n" ++ []) ≡ end_line name place
end_parts name place = simp append_assoc
