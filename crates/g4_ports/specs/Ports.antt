-- What the calls of a shelf and a sink answer, and what they count.
use Rattle.std.specs.Prelude.{◌≡◌, ◌≤◌, ◌<◌, ℕ, ◌+◌, ◌-◌, ◌^◌, List, ◌++◌, length, take, min, Option, Some, None, Result, Ok, Err, Bool, true, false}
use Rattle.g4_base.specs.declared.limits.TheConstants.{MOST_BYTES}
use Rattle.g4_ports.specs.declared.ports.Got.{Got}
use Rattle.g4_ports.specs.declared.ports.Got.TheVariants.{Bytes, Absent, Failed, TooLarge, NoMemory}

-- A count has risen. At the last value of its type it stays the same, which counts as risen.
abbrev pub Rose : ℕ → ℕ → Type 0
Rose before now = (before ≤ now) × (min (before + 1) (2 ^ 64 - 1) ≤ now)

-- the answer for a file that is known
abbrev pub IsFileOf : Option (List ℕ) → Got → Type 0
IsFileOf file (Bytes bytes) = file ≡ Some bytes
IsFileOf file Absent = file ≡ None
IsFileOf file Failed = Unit {0}
IsFileOf file (TooLarge n) = (bytes : List ℕ) × (file ≡ Some bytes) × (length bytes ≡ n)
IsFileOf file NoMemory = Unit {0}

-- the sizes, whether the files are known or not
abbrev pub IsSized : Got → Type 0
IsSized (Bytes bytes) = length bytes ≤ MOST_BYTES
IsSized Absent = Unit {0}
IsSized Failed = Unit {0}
IsSized (TooLarge n) = MOST_BYTES < n
IsSized NoMemory = Unit {0}

-- the count of faults rises where reading failed, and is the same otherwise
abbrev pub CountsFaults : ℕ → ℕ → Got → Type 0
CountsFaults before now (Bytes bytes) = now ≡ before
CountsFaults before now Absent = now ≡ before
CountsFaults before now Failed = Rose before now
CountsFaults before now (TooLarge n) = now ≡ before
CountsFaults before now NoMemory = now ≡ before

-- the count of misses rises where a file is absent or past the limit, and is the same otherwise
abbrev pub CountsMisses : ℕ → ℕ → Got → Type 0
CountsMisses before now (Bytes bytes) = now ≡ before
CountsMisses before now Absent = Rose before now
CountsMisses before now Failed = now ≡ before
CountsMisses before now (TooLarge n) = Rose before now
CountsMisses before now NoMemory = now ≡ before

-- a put takes at least one byte, and at most as many as there are
abbrev pub IsCount : {E : Type 0} → ℕ → Result ℕ E → Type 0
IsCount length (Ok n) = (0 < n) × (n ≤ length)
IsCount length (Err e) = Unit {0}

-- what has been taken, where that is known, once these bytes are taken too
abbrev pub with_more : Option (List ℕ) → List ℕ → Option (List ℕ)
with_more None bytes = None
with_more (Some had) bytes = Some (had ++ bytes)

-- a put takes the first bytes of the piece, or none where it fails
abbrev pub TakesFrom : {E : Type 0} → List ℕ → Option (List ℕ) → Option (List ℕ) → Result ℕ E → Type 0
TakesFrom piece before now (Ok n) = now ≡ with_more before (take n piece)
TakesFrom piece before now (Err e) = now ≡ before

-- a failure only where the count of faults has risen, and the count is the same otherwise
abbrev pub CountsPut : {T E : Type 0} → ℕ → ℕ → Result T E → Type 0
CountsPut before now (Ok x) = now ≡ before
CountsPut before now (Err e) = Rose before now

-- a front part of the bytes has been taken
abbrev pub TakesFront : List ℕ → Option (List ℕ) → Option (List ℕ) → Type 0
TakesFront bytes before now = (front : List ℕ) × (rest : List ℕ) × (bytes ≡ front ++ rest) × (now ≡ with_more before front)

-- the answer is that reading failed
abbrev pub is_failed : Got → Bool
is_failed (Bytes bytes) = false
is_failed Absent = false
is_failed Failed = true
is_failed (TooLarge n) = false
is_failed NoMemory = false
