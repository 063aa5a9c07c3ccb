-- What a run has written of its report, and why it ended with its status.
use Rattle.std.specs.Prelude.{◌≡◌, ◌≢◌, ℕ, List, Option, Some, ◌⊎◌}
use Rattle.g4_ports.specs.Ports.{Rose}
use Rattle.g4_fetch.specs.Files.{Files}
use Rattle.g4_tool.specs.Report.{IsReport, ComesExactly, IsComplete}
use Rattle.g4_tool.specs.Writing.{Wrote, WroteFront, OneRose, NoneRose}
use Rattle.g4_tool.specs.declared.report.Report.{Report}
use Rattle.g4_tool.specs.declared.status.Status.{Status}
use Rattle.g4_tool.specs.declared.status.Status.TheVariants.{Done, Refused, Usage, GrammarRefused, Unread, Unwritten, NoMemory}

-- the outputs have taken the whole report of the words, and the status is its own
pub record HasReported (files : Files) (words : List (List ℕ)) (answer : Status)
    (out_before out_now err_before err_now : Option (List ℕ)) : Type 0 where
  pub report : Report
  pub is : IsReport files words report
  pub status : answer ≡ report.status
  pub lines : Wrote report.lines out_before out_now err_before err_now

-- the outputs have taken a front part of their bytes of the report of the words
pub record HasFront (files : Files) (words : List (List ℕ)) (out_before out_now err_before err_now : Option (List ℕ)) : Type 0 where
  pub report : Report
  pub is : IsReport files words report
  pub lines : WroteFront report.lines out_before out_now err_before err_now

-- nothing has been taken, or a front part of the report
abbrev pub HasReportedFront : Files → List (List ℕ) → Option (List ℕ) → Option (List ℕ) → Option (List ℕ) → Option (List ℕ) → Type 0
HasReportedFront files words out_before out_now err_before err_now =
    ((out_now ≡ out_before) × (err_now ≡ err_before)) ⊎ HasFront files words out_before out_now err_before err_now

-- In this call the source has these files, no fetch and no put failed, and memory was not refused.
pub record NothingFails (files : Files) (told : Option Files) (fetches_before fetches_now out_before out_now err_before err_now : ℕ)
    (answer : Status) : Type 0 where
  pub tells : told ≡ Some files
  pub fetches : ¬ Rose fetches_before fetches_now
  pub out : ¬ Rose out_before out_now
  pub err : ¬ Rose err_before err_now
  pub memory : answer ≢ NoMemory

-- The outputs have taken the whole report, each status comes exactly where the words have an end with it, and a command that
-- can be run is Done or Refused.
pub record IsWhole (files : Files) (words : List (List ℕ)) (answer : Status)
    (out_before out_now err_before err_now : Option (List ℕ)) : Type 0 where
  pub reported : HasReported files words answer out_before out_now err_before err_now
  pub exactly : ComesExactly files words answer
  pub complete : IsComplete files words answer

-- Why a run ended so. Usage comes only where the words are no command, Unread only where a fetch failed or a file was
-- missed, Unwritten exactly where a put failed.
abbrev pub HasCauses : Type 0 → ℕ → ℕ → ℕ → ℕ → ℕ → ℕ → ℕ → ℕ → Status → Type 0
HasCauses usage ob on eb en fb fn mb mn Done = NoneRose ob on eb en × (fn ≡ fb)
HasCauses usage ob on eb en fb fn mb mn Refused = NoneRose ob on eb en × (fn ≡ fb)
HasCauses usage ob on eb en fb fn mb mn Usage = usage × NoneRose ob on eb en × (fn ≡ fb)
HasCauses usage ob on eb en fb fn mb mn GrammarRefused = NoneRose ob on eb en × (fn ≡ fb)
HasCauses usage ob on eb en fb fn mb mn Unread = NoneRose ob on eb en × (Rose fb fn ⊎ ((fn ≡ fb) × Rose mb mn))
HasCauses usage ob on eb en fb fn mb mn Unwritten = OneRose ob on eb en × (fn ≡ fb)
HasCauses usage ob on eb en fb fn mb mn NoMemory = NoneRose ob on eb en × (fn ≡ fb)
