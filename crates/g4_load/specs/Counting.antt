-- How the source's counts of faults and misses go with what is answered.
use Rattle.std.specs.Prelude.{◌≡◌, ◌≤◌, ℕ, Result, Ok, Err}
use Rattle.g4_ports.specs.Ports.{Rose}
use Rattle.g4_load.specs.declared.stop.Stop.{Stop}
use Rattle.g4_load.specs.declared.stop.Stop.TheVariants as stops
use Rattle.g4_load.specs.declared.stop.Halt.{Halt}
use Rattle.g4_load.specs.declared.stop.Halt.TheVariants as halts

-- the count of misses rises where a file is absent or past the limit, and never falls; Usage comes only where it may
abbrev pub StopMisses : Type 0 → ℕ → ℕ → Stop → Type 0
StopMisses usage before now stops.Usage = usage × (before ≤ now)
StopMisses usage before now (stops.Absent name) = Rose before now
StopMisses usage before now (stops.TooLarge name size) = Rose before now
StopMisses usage before now (stops.Fault name fault) = before ≤ now

-- the count of faults rises where a fetch failed, and stays the same otherwise
abbrev pub HaltCounts : Type 0 → ℕ → ℕ → ℕ → ℕ → Halt → Type 0
HaltCounts usage faults_before faults_now misses_before misses_now (halts.Stop stop) = (faults_now ≡ faults_before)
    × StopMisses usage misses_before misses_now stop
HaltCounts usage faults_before faults_now misses_before misses_now halts.Failed = Rose faults_before faults_now
    × (misses_before ≤ misses_now)
HaltCounts usage faults_before faults_now misses_before misses_now halts.NoMemory = (faults_now ≡ faults_before)
    × (misses_before ≤ misses_now)

-- the counts after fetching
abbrev pub Counts : {X : Type 0} → Type 0 → ℕ → ℕ → ℕ → ℕ → Result X Halt → Type 0
Counts usage faults_before faults_now misses_before misses_now (Ok x) = (faults_now ≡ faults_before) × (misses_before ≤ misses_now)
Counts usage faults_before faults_now misses_before misses_now (Err halt) =
    HaltCounts usage faults_before faults_now misses_before misses_now halt
