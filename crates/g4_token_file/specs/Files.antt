-- The table of a `.tokens` file, or the first line that is faulty.
use Rattle.std.specs.Prelude.{◌≡◌, ◌≢◌, ℕ, ◌+◌, ◌<◌, ◌≤◌, List, [], ◌∷◌, ◌++◌, Some, None, Result, Ok, Err, map, drop, nat_eq, if◌then◌else◌}
use Rattle.std.specs.List.{starts_with}
use Rattle.bstr.specs.Text.{lines_of, without_terminator}
use Rattle.g4_tokens.specs.declared.symbol.TheConstants.{MOST_TYPES}
use Rattle.g4_token_file.specs.Keys.{number_of}
use Rattle.g4_token_file.specs.Lines.{IsTokenLine}
use Rattle.g4_token_file.specs.declared.entry.TokenEntry.{TokenEntry}
use Rattle.g4_token_file.specs.declared.fault.TokenFileFault.{TokenFileFault}
use Rattle.g4_token_file.specs.declared.fault.TokenFileFault.TheVariants.{BadTokensLine, Types, NoMemory}

-- the bytes of a byte order mark
abbrev pub mark : List ℕ
mark = 239 ∷ 187 ∷ 191 ∷ []

-- the bytes without a byte order mark before them
abbrev pub unmarked : List ℕ → List ℕ
unmarked bytes = if starts_with nat_eq bytes mark then drop 3 bytes else bytes

-- the lines of a file, each without the newline that ends it and a return before that
abbrev pub file_lines : List ℕ → List (List ℕ)
file_lines bytes = map without_terminator (lines_of (unmarked bytes))

-- the table after this line, from the table of the lines before it
pub data Passes : List TokenEntry → List ℕ → List TokenEntry → Type 0 where
  empty : (table : List TokenEntry) → Passes table [] table
  repeated : (table : List TokenEntry) (line : List ℕ) (entry : TokenEntry) → IsTokenLine line entry
      → number_of table entry.key ≡ Some entry.number → Passes table line table
  added : (table : List TokenEntry) (line : List ℕ) (entry : TokenEntry) → IsTokenLine line entry
      → number_of table entry.key ≡ None → entry.number ≤ MOST_TYPES → Passes table line (table ++ entry ∷ [])

-- the line is of no form, or gives a second number to what has one in the table of the lines before it
pub data IsBad : List TokenEntry → List ℕ → Type 0 where
  formless : (table : List TokenEntry) (line : List ℕ) → line ≢ [] → ((entry : TokenEntry) → IsTokenLine line entry → ⊥) → IsBad table line
  second : (table : List TokenEntry) (line : List ℕ) (entry : TokenEntry) (other : ℕ) → IsTokenLine line entry
      → number_of table entry.key ≡ Some other → other ≢ entry.number → IsBad table line

-- the line gives something new a number past the limit
pub record IsPast (table : List TokenEntry) (line : List ℕ) : Type 0 where
  pub entry : TokenEntry
  pub says : IsTokenLine line entry
  pub fresh : number_of table entry.key ≡ None
  pub past : MOST_TYPES < entry.number

-- reading stops at this line, which has this number, with this fault
abbrev pub StopsAt : List TokenEntry → ℕ → List ℕ → TokenFileFault → Type 0
StopsAt table number line (BadTokensLine at) = (at ≡ number) × IsBad table line
StopsAt table number line Types = IsPast table line
StopsAt table number line NoMemory = ⊥

-- what the lines give, from the table of the lines before them and the number of the first of them
pub data Reads : List TokenEntry → ℕ → List (List ℕ) → Result (List TokenEntry) TokenFileFault → Type 0 where
  at_end : (table : List TokenEntry) (number : ℕ) → Reads table number [] (Ok table)
  past_line : (table next : List TokenEntry) (number : ℕ) (line : List ℕ) (rest : List (List ℕ))
      (answer : Result (List TokenEntry) TokenFileFault) → Passes table line next → Reads next (number + 1) rest answer
      → Reads table number (line ∷ rest) answer
  stopped : (table : List TokenEntry) (number : ℕ) (line : List ℕ) (rest : List (List ℕ)) (fault : TokenFileFault)
      → StopsAt table number line fault → Reads table number (line ∷ rest) (Err fault)

-- the call answers with the table of the file, or with its first fault, unless memory runs out
abbrev pub IsTokenFile : List ℕ → Result (List TokenEntry) TokenFileFault → Type 0
IsTokenFile bytes (Err NoMemory) = Unit {0}
IsTokenFile bytes answer = Reads [] 1 (file_lines bytes) answer
