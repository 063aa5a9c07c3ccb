-- Reading a file halts.
use Rattle.std.proofs.Common.{◌≡◌, ◌≤◌, ℕ, List, length, Some, Ok, Err, refl, sym, subst, arith}
use Rattle.g4_base.specs.declared.limits.TheConstants.{MOST_BYTES}
use Rattle.g4_reader.specs.Reading.{IsReading}
use Rattle.g4_reader.specs.declared.reader.ReadFault.{ReadFault}
use Rattle.g4_fetch.specs.Counting.{HaltCounts, StopMisses}
use Rattle.g4_fetch.specs.Files.{Files, Opens, there}
use Rattle.g4_fetch.specs.Reading.{Reads, missing, faulty, IsHaltOf, IsReadingHalt}
use Rattle.g4_fetch.specs.declared.stop.Stop.{Stop}
use Rattle.g4_fetch.specs.declared.stop.Halt.{Halt}
use Rattle.g4_fetch.specs.declared.stop.Halt.TheVariants as halts

-- at a file that is not opened
pub not_opened : (files : Files) (name : List ℕ) (halt : Halt) → IsHaltOf (Opens files name) halt → IsHaltOf (Reads files name) halt
not_opened files name (halts.Stop stop) is = missing stop is
not_opened files name halts.Failed is = tt
not_opened files name halts.NoMemory is = tt

-- at a file that is no grammar
pub not_read : (files : Files) (name bytes : List ℕ) (error : ReadFault) (halt : Halt) → Opens files name (Ok bytes)
    → IsReading bytes (Err error) → IsReadingHalt name error halt → IsHaltOf (Reads files name) halt
not_read files name bytes error (halts.Stop stop) opens reading is =
    subst (λ (s : Stop). Reads files name (Err s)) (sym is.2) (faulty bytes error is.0 opens reading is.1)
not_read files name bytes error halts.Failed opens reading is = absurd is
not_read files name bytes error halts.NoMemory opens reading is = tt

-- and counts nothing
pub not_read_counts : (name : List ℕ) (error : ReadFault) (faults misses : ℕ) (halt : Halt) → IsReadingHalt name error halt
    → HaltCounts faults faults misses misses halt
not_read_counts name error faults misses (halts.Stop stop) is =
    (refl, subst (λ (s : Stop). StopMisses misses misses s) (sym is.2) (omega arith))
not_read_counts name error faults misses halts.Failed is = absurd is
not_read_counts name error faults misses halts.NoMemory is = (refl, omega arith)

-- a file that is kept is there
pub kept_file : (files : Files) (name bytes : List ℕ) → files name ≡ Some bytes → length bytes ≤ MOST_BYTES → Opens files name (Ok bytes)
kept_file files name bytes is small = there bytes is small
