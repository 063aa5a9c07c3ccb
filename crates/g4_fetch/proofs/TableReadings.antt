-- Reading a file of tokens halts.
use Rattle.std.proofs.Common.{ℕ, List, Ok, Err, sym, subst}
use Rattle.g4_token_file.specs.Files.{IsTokenFile}
use Rattle.g4_token_file.specs.declared.fault.TokenFileFault.{TokenFileFault}
use Rattle.g4_fetch.specs.Counting.{HaltCounts, StopMisses}
use Rattle.g4_fetch.specs.Files.{Files, Opens}
use Rattle.g4_fetch.specs.Reading.{IsHaltOf}
use Rattle.g4_fetch.specs.Tables.{IsTableHalt, ReadsFile, missing, faulty}
use Rattle.g4_fetch.specs.declared.stop.Stop.{Stop}
use Rattle.g4_fetch.specs.declared.stop.Halt.{Halt}
use Rattle.g4_fetch.specs.declared.stop.Halt.TheVariants as halts

-- at a file that is not opened
pub table_not_opened : (files : Files) (name : List ℕ) (halt : Halt) → IsHaltOf (Opens files name) halt
    → IsHaltOf (ReadsFile files name) halt
table_not_opened files name (halts.Stop stop) is = missing stop is
table_not_opened files name halts.Failed is = tt
table_not_opened files name halts.NoMemory is = tt

-- at a faulty line
pub table_not_read : (files : Files) (name bytes : List ℕ) (error : TokenFileFault) (halt : Halt) → Opens files name (Ok bytes)
    → IsTokenFile bytes (Err error) → IsTableHalt name error halt → IsHaltOf (ReadsFile files name) halt
table_not_read files name bytes error (halts.Stop stop) opens reading is =
    subst (λ (s : Stop). ReadsFile files name (Err s)) (sym is.2) (faulty bytes error is.0 opens reading is.1)
table_not_read files name bytes error halts.Failed opens reading is = absurd is
table_not_read files name bytes error halts.NoMemory opens reading is = tt
