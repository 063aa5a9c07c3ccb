-- Which file a fault of a grammar of several files is in.
use Rattle.std.specs.Prelude.{◌≡◌, ◌-◌, ℕ, List, Option, Some, None, Result, Ok, Err, length, slice_get}
use Rattle.g4_checks.specs.Holders.{FindsHolder}
use Rattle.g4_checks.specs.declared.fault.CheckFault.{CheckFault}
use Rattle.g4_checks.specs.declared.fault.CheckFault.TheVariants as checks
use Rattle.g4_load.specs.declared.fault.GrammarFault.{GrammarFault}
use Rattle.g4_load.specs.declared.fault.GrammarFault.TheVariants as faults
use Rattle.g4_load.specs.declared.whole.Origin.{Origin}
use Rattle.g4_load.specs.declared.whole.Whole.{Whole}
use Rattle.g4_load.specs.declared.stop.Stop.{Stop}
use Rattle.g4_load.specs.declared.stop.Stop.TheVariants as stops

-- a name, or else the main file's
abbrev pub or_main : List ℕ → Option (List ℕ) → List ℕ
or_main main None = main
or_main main (Some name) = name

-- the name of the file with this number
abbrev pub file_name : List ℕ → Origin → Option ℕ → List ℕ
file_name main origin None = main
file_name main origin (Some file) = or_main main (slice_get origin.names file)

-- the name of the file of the rule with this number, of which its own rules have this file: the rules of a lexer grammar come last
abbrev pub file_by : List ℕ → Whole → ℕ → Option ℕ → List ℕ
file_by main whole rule (Some file) = or_main main (slice_get whole.own.names file)
file_by main whole rule None = file_name main whole.lexer (slice_get whole.lexer.files (rule - length whole.own.files))

-- the name of the file of the rule with this number, if it is given; else the main file's
abbrev pub file_of_rule : List ℕ → Whole → Option ℕ → List ℕ
file_of_rule main whole None = main
file_of_rule main whole (Some rule) = file_by main whole rule (slice_get whole.own.files rule)

-- of a fault of rules: that of the rule that holds its place, where one does
abbrev pub IsFileOfCheck : List ℕ → Whole → CheckFault → List ℕ → Type 0
IsFileOfCheck main whole (checks.Reference fault) file =
    (holder : Option ℕ) × FindsHolder fault whole.source.rules holder × (file ≡ file_of_rule main whole holder)
IsFileOfCheck main whole (checks.Recursion fault) file = file ≡ main

-- of any other fault the main file's
abbrev pub IsFileOf : List ℕ → Whole → GrammarFault → List ℕ → Type 0
IsFileOf main whole (faults.Check fault) file = IsFileOfCheck main whole fault file
IsFileOf main whole fault file = file ≡ main

-- the fault is reported of its file
abbrev pub IsLocated : List ℕ → Whole → GrammarFault → Stop → Type 0
IsLocated main whole fault stop = (file : List ℕ) × IsFileOf main whole fault file × (stop ≡ stops.Fault file fault)

-- A stage over a grammar of several files: its faults are faults of their files.
pub data OfWhole {X : Type 0} (main : List ℕ) (whole : Whole) (Stage : Result X GrammarFault → Type 0)
    : Result X Stop → Type 0 where
  passes : (x : X) → Stage (Ok x) → OfWhole main whole Stage (Ok x)
  fails : (fault : GrammarFault) (stop : Stop) → Stage (Err fault) → IsLocated main whole fault stop
      → OfWhole main whole Stage (Err stop)
