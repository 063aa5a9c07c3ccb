-- The lines of the tokens of a file: one for each token of all channels, and one for the end of the file.
use Rattle.std.specs.Prelude.{ℕ, ◌-◌, List, [], ◌++◌, Option, Some, None, cond, ◌==◌, ◌||◌, codes, length, slice_get}
use Rattle.std.specs.List.{flat_map}
use Rattle.std.specs.Fmt.{decimal}
use Rattle.g4_base.specs.declared.place.Place.{Place}
use Rattle.g4_tokens.specs.Symbols.{end_of_list, eof}
use Rattle.g4_tokens.specs.declared.token.Token.{Token}
use Rattle.g4_tokens.specs.declared.token.Tokens.{Tokens}
use Rattle.g4_trees.specs.TreeText.{token_text}

-- a line and a column: `1:0`
abbrev pub place_text : Place → List ℕ
place_text place = decimal place.line ++ (codes ":" ++ decimal place.column)

-- what is shown of a token type that was looked up, nothing where it is absent
abbrev pub shown_by : Option (List ℕ) → List ℕ
shown_by None = []
shown_by (Some text) = text

-- what is shown of a symbol: `EOF` for EOF and END, else what `shown` has for this token type; the types count from 1
abbrev pub symbol_text : List (List ℕ) → ℕ → List ℕ
symbol_text shown symbol = cond (symbol == eof || symbol == end_of_list) (codes "EOF") (shown_by (slice_get shown (symbol - 1)))

-- ` channel 1`, and nothing for channel 0
abbrev pub channel_text : ℕ → List ℕ
channel_text channel = cond (channel == 0) [] (codes " channel " ++ decimal channel)

-- a token of a file of these bytes: `1:0 ID 'a'`, and its channel after it
abbrev pub token_shown : List (List ℕ) → List ℕ → Token → List ℕ
token_shown shown bytes token =
    place_text token.place ++ (codes " " ++ (symbol_text shown token.symbol
    ++ (codes " '" ++ (token_text bytes token ++ (codes "'" ++ channel_text token.channel)))))

-- a line of a file of this name: `NAME: TEXT`
abbrev pub line_of : List ℕ → List ℕ → List ℕ
line_of name text = name ++ (codes ": " ++ (text ++ codes "\n"))

-- the line of a token: `NAME: 1:0 ID 'a'`
abbrev pub token_line : List (List ℕ) → List ℕ → List ℕ → Token → List ℕ
token_line shown name bytes token = line_of name (token_shown shown bytes token)

-- the line of the end of a file, which is at this place: `NAME: 2:0 EOF '<EOF>'`
abbrev pub end_line : List ℕ → Place → List ℕ
end_line name place = line_of name (place_text place ++ codes " EOF '<EOF>'")

-- the line of the end of a file, which is at the place of this token, nothing where it is absent
abbrev pub end_line_by : List ℕ → Option Token → List ℕ
end_line_by name None = []
end_line_by name (Some token) = end_line name token.place

-- the lines of the tokens of all channels in order, and that of the end of the file, which is at the place of the last token that
-- the parser sees
abbrev pub token_lines : List (List ℕ) → List ℕ → Tokens → List ℕ
token_lines shown name tokens = flat_map (token_line shown name tokens.bytes) tokens.all
    ++ end_line_by name (slice_get tokens.list (length tokens.list - 1))
