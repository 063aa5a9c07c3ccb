-- The symbols that are not token types. Both are greater than every token type, those of tags included.
use Rattle.std.specs.Prelude.{ℕ}

-- `EOF`, which appears four times after the tokens of a file
abbrev pub eof : ℕ
eof = 65536

-- the last symbol of every token list, which no grammar can name
abbrev pub end_of_list : ℕ
end_of_list = 65537
