use Rattle.std.proofs.Common.{List, Option, Some, None, sym, subst, ◌∙◌}
use Rattle.g4_source.specs.First.{Finds, FindsFirst}
use Rattle.g4_fetch.specs.declared.closure.Import.{Import}
use Rattle.g4_imports.specs.Faults.{CannotImport}
use Rattle.g4_imports.specs.declared.fault.ImportFault.{ImportFault}
use Rattle.g4_imports.proofs.FirstOf.{all_passed, one_passed, one_reported}
use Rattle.g4_imports.proofs.kinds.first_bad_import.Goals as goal

pub returns-in-Some : goal.returns-in-Some
returns-in-Some c =
    let grammar = c.args.grammar.now in
    subst (λ (imports : List Import). FindsFirst (CannotImport grammar) imports (Some c.in-Some.fault)) c.as_slice-import-items.ensures
    (one_reported (CannotImport grammar) c.as_slice-import-items.result.now c.loop-import.import-index c.import-item.result
    c.in-Some.fault c.loop-import-test.true c.import-item.is
    (subst (λ (found : Option ImportFault). Finds (CannotImport grammar) c.import-item.result found) c.in-Some.is c.in_ok-fault.ensures)
    c.loop-import.invariant)

pub loop-import-preserved : goal.loop-import-preserved
loop-import-preserved c =
    let grammar = c.args.grammar.now in
    one_passed (CannotImport grammar) c.as_slice-import-items.result.now c.loop-import.import-index c.import-item.result
    c.loop-import-test.true c.import-item.is
    (subst (λ (found : Option ImportFault). Finds (CannotImport grammar) c.import-item.result found) c.in_default.is
    c.in_ok-fault.ensures) c.loop-import.invariant

pub returns : goal.returns
returns c =
    let grammar = c.args.grammar.now in
    subst (λ (imports : List Import). FindsFirst (CannotImport grammar) imports None) c.as_slice-import-items.ensures
    (all_passed (CannotImport grammar) c.as_slice-import-items.result.now c.loop-import.import-index c.loop-import-test.false
    c.loop-import.invariant)
