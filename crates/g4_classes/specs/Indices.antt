-- The symbols by index, in order.
use Rattle.std.specs.Prelude.{ℕ, ◌+◌, ◌-◌, List, Option, Some, None, ◌==◌, ◌&&◌, nat_lt, nat_le, if◌then◌else◌, slice_index}
use Rattle.g4_tokens.specs.declared.symbol.TheConstants.{MOST_TYPES}
use Rattle.g4_tokens.specs.Symbols.{eof, end_of_list}
use Rattle.g4_classes.specs.declared.index.TheConstants.{EOF_INDEX, END_INDEX}

-- the index of a symbol, of no other number
abbrev pub index_of : ℕ → Option ℕ
index_of a = if a == eof then Some EOF_INDEX
    else (if a == end_of_list then Some END_INDEX else (if nat_lt 0 a && nat_le a MOST_TYPES then Some (a - 1) else None))

-- the symbol of an index
abbrev pub symbol_at : ℕ → ℕ
symbol_at i = if i == EOF_INDEX then eof else (if i == END_INDEX then end_of_list else i + 1)

-- what a list has at an index, or the number itself where it has none
abbrev pub class_by : List ℕ → ℕ → Option ℕ → ℕ
class_by classes a None = a
class_by classes a (Some i) = slice_index classes i

-- what a list by index has for a symbol, and for any other number the number itself
abbrev pub class_in : List ℕ → ℕ → ℕ
class_in classes a = class_by classes a (index_of a)
