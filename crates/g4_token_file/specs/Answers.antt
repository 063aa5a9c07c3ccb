-- What a step of reading answers.
use Rattle.std.specs.Prelude.{◌≡◌, ℕ, ◌+◌, List, Result, Ok, Err, min}
use Rattle.g4_tokens.specs.declared.symbol.TheConstants.{MOST_TYPES}
use Rattle.g4_token_file.specs.Files.{IsBad, IsPast, Passes}
use Rattle.g4_token_file.specs.Lines.{IsTokenLine}
use Rattle.g4_token_file.specs.declared.entry.TokenEntry.{TokenEntry}
use Rattle.g4_token_file.specs.declared.fault.LineFault.{LineFault}
use Rattle.g4_token_file.specs.declared.fault.LineFault.TheVariants.{Bad, Past, NoMemory}
use Rattle.g4_token_file.specs.declared.fault.TokenFileFault.{TokenFileFault}
use Rattle.g4_token_file.specs.declared.fault.TokenFileFault.TheVariants as files

-- the call answers with something that is so, or that nothing is, unless memory runs out
abbrev pub Answers : {T : Type 0} → (T → Type 0) → Result T LineFault → Type 0
Answers Is (Ok found) = Is found
Answers {T} Is (Err Bad) = (any : T) → Is any → ⊥
Answers Is (Err Past) = ⊥
Answers Is (Err NoMemory) = Unit {0}

-- the number, or the first one past the limit in place of every greater one
abbrev pub capped : ℕ → ℕ
capped number = min number (MOST_TYPES + 1)

-- the line says this, the number aside, which is capped
pub record IsCappedLine (line : List ℕ) (entry : TokenEntry) : Type 0 where
  pub number : ℕ
  pub says : IsTokenLine line (record { key = entry.key; written = entry.written; number = number })
  pub number_is : entry.number ≡ capped number

-- the call answers with the table after this line, or with what is wrong with it, unless memory runs out
abbrev pub IsStep : List TokenEntry → List ℕ → Result (List TokenEntry) LineFault → Type 0
IsStep table line (Ok next) = Passes table line next
IsStep table line (Err Bad) = IsBad table line
IsStep table line (Err Past) = IsPast table line
IsStep table line (Err NoMemory) = Unit {0}

-- the fault of the file whose line with this number it is
abbrev pub fault_at : LineFault → ℕ → TokenFileFault
fault_at Bad number = files.BadTokensLine number
fault_at Past number = files.Types
fault_at NoMemory number = files.NoMemory
