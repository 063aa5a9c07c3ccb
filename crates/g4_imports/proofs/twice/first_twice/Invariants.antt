use Rattle.g4_imports.proofs.FirstOf.{ArePassed}
use Rattle.g4_imports.specs.Faults.{RepeatsRule}
use Rattle.g4_imports.proofs.twice.first_twice.Given as goal

abbrev pub invariant-loop-file : goal.invariant-loop-file
invariant-loop-file l = ArePassed RepeatsRule l.files l.file-index
