use Rattle.g4_imports.proofs.FirstOf.{ArePassed}
use Rattle.g4_imports.specs.Faults.{CannotImport}
use Rattle.g4_imports.proofs.kinds.first_bad_import.Given as goal

abbrev pub invariant-loop-import : goal.invariant-loop-import
invariant-loop-import l = ArePassed (CannotImport l.grammar) l.import-items l.import-index
