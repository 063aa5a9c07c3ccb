use Rattle.g4_checks.specs.References.{HasNoClash}
use Rattle.g4_checks.specs.References as naming
use Rattle.g4_checks.specs.Checking.{IsFault}
use Rattle.g4_checks.specs.declared.fault.CheckFault.TheVariants.{Reference}
use Rattle.g4_checks.proofs.Passed.{answers_passed}
use Rattle.g4_checks.proofs.checking.references_checked.Goals as goal

pub returns : goal.returns
returns c =
    let source = c.args.source.now in
    rw c.passed.ensures (answers_passed Reference (λ _. HasNoClash source) (naming.IsFault source) (IsFault source) (λ f h. h) _
    c.check_references.ensures)
