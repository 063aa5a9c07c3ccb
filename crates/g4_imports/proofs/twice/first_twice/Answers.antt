use Rattle.std.proofs.Common.{Option, subst}
use Rattle.g4_source.specs.First.{Finds}
use Rattle.g4_imports.specs.Faults.{RepeatsRule}
use Rattle.g4_imports.specs.declared.fault.ImportFault.{ImportFault}
use Rattle.g4_imports.proofs.FirstOf.{all_passed, one_passed, one_reported}
use Rattle.g4_imports.proofs.twice.first_twice.Goals as goal

pub returns-in-Some : goal.returns-in-Some
returns-in-Some c =
    one_reported RepeatsRule c.args.files.now c.loop-file.file-index c.file-item.result c.in-Some.fault c.loop-file-test.true
    c.file-item.is
    (subst (λ (found : Option ImportFault). Finds RepeatsRule c.file-item.result found) c.in-Some.is c.in_ok-fault.ensures)
    c.loop-file.invariant

pub loop-file-preserved : goal.loop-file-preserved
loop-file-preserved c =
    one_passed RepeatsRule c.args.files.now c.loop-file.file-index c.file-item.result c.loop-file-test.true c.file-item.is
    (subst (λ (found : Option ImportFault). Finds RepeatsRule c.file-item.result found) c.in_default.is c.in_ok-fault.ensures)
    c.loop-file.invariant

pub returns : goal.returns
returns c = all_passed RepeatsRule c.args.files.now c.loop-file.file-index c.loop-file-test.false c.loop-file.invariant
