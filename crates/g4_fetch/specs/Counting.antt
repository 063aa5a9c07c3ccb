-- How the source's counts of faults and misses go with what is answered.
use Rattle.std.specs.Prelude.{◌≡◌, ◌≤◌, ℕ, Result, Ok, Err}
use Rattle.g4_ports.specs.Ports.{Rose}
use Rattle.g4_fetch.specs.declared.stop.Stop.{Stop}
use Rattle.g4_fetch.specs.declared.stop.Stop.TheVariants as stops
use Rattle.g4_fetch.specs.declared.stop.Halt.{Halt}
use Rattle.g4_fetch.specs.declared.stop.Halt.TheVariants as halts

-- the count of misses rises where a file is absent or past the limit, and never falls
abbrev pub StopMisses : ℕ → ℕ → Stop → Type 0
StopMisses before now (stops.Absent name) = Rose before now
StopMisses before now (stops.TooLarge name size) = Rose before now
StopMisses before now (stops.Unreadable name fault) = before ≤ now

-- the count of faults rises where a fetch failed, and stays the same otherwise
abbrev pub HaltCounts : ℕ → ℕ → ℕ → ℕ → Halt → Type 0
HaltCounts faults_before faults_now misses_before misses_now (halts.Stop stop) = (faults_now ≡ faults_before)
    × StopMisses misses_before misses_now stop
HaltCounts faults_before faults_now misses_before misses_now halts.Failed = Rose faults_before faults_now × (misses_before ≤ misses_now)
HaltCounts faults_before faults_now misses_before misses_now halts.NoMemory = (faults_now ≡ faults_before) × (misses_before ≤ misses_now)

-- the counts after fetching
abbrev pub Counts : {X : Type 0} → ℕ → ℕ → ℕ → ℕ → Result X Halt → Type 0
Counts faults_before faults_now misses_before misses_now (Ok x) = (faults_now ≡ faults_before) × (misses_before ≤ misses_now)
Counts faults_before faults_now misses_before misses_now (Err halt) = HaltCounts faults_before faults_now misses_before misses_now halt
