-- How the source's counts of faults and misses go with a report.
use Rattle.std.specs.Prelude.{◌≡◌, ◌≤◌, ℕ, Result, Ok, Err}
use Rattle.g4_ports.specs.Ports.{Rose}
use Rattle.g4_tool.specs.declared.report.Report.{Report}
use Rattle.g4_tool.specs.declared.report.Stopped.{Stopped}
use Rattle.g4_tool.specs.declared.report.Stopped.TheVariants as stopped
use Rattle.g4_tool.specs.declared.status.Status.{Status}
use Rattle.g4_tool.specs.declared.status.Status.TheVariants.{Done, Refused, Usage, GrammarRefused, Unread, Unwritten, NoMemory}

-- A report says Unread only where a file was missed, Usage only where it may, and never that writing or memory failed.
abbrev pub StatusCounts : Type 0 → ℕ → ℕ → Status → Type 0
StatusCounts usage misses_before misses_now Done = misses_before ≤ misses_now
StatusCounts usage misses_before misses_now Refused = misses_before ≤ misses_now
StatusCounts usage misses_before misses_now Usage = usage × (misses_before ≤ misses_now)
StatusCounts usage misses_before misses_now GrammarRefused = misses_before ≤ misses_now
StatusCounts usage misses_before misses_now Unread = Rose misses_before misses_now
StatusCounts usage misses_before misses_now Unwritten = ⊥
StatusCounts usage misses_before misses_now NoMemory = ⊥

-- the counts where a report is made, or where a fetch failed or memory ran out
abbrev pub ReportCounts : Type 0 → ℕ → ℕ → ℕ → ℕ → Result Report Stopped → Type 0
ReportCounts usage faults_before faults_now misses_before misses_now (Ok report) = (faults_now ≡ faults_before)
    × StatusCounts usage misses_before misses_now report.status
ReportCounts usage faults_before faults_now misses_before misses_now (Err stopped.Failed) = Rose faults_before faults_now
    × (misses_before ≤ misses_now)
ReportCounts usage faults_before faults_now misses_before misses_now (Err stopped.NoMemory) = (faults_now ≡ faults_before)
    × (misses_before ≤ misses_now)
