use Rattle.g4_recursion.specs.Checking.{HaveNoFault}
use Rattle.g4_recursion.specs.Checking as calling
use Rattle.g4_checks.specs.Checking.{IsFault}
use Rattle.g4_checks.specs.declared.fault.CheckFault.TheVariants.{Recursion}
use Rattle.g4_checks.proofs.Passed.{answers_passed}
use Rattle.g4_checks.proofs.checking.recursion_checked.Goals as goal

pub returns : goal.returns
returns c =
    let source = c.args.source.now in
    rw c.passed.ensures (answers_passed Recursion (λ _. HaveNoFault source.rules) (calling.IsFault source.rules) (IsFault source)
    (λ f h. (c.requires, h)) _ c.check_recursion.ensures)
