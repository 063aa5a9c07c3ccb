use Rattle.std.proofs.Common.{◌≡◌, List, Option, Some, None, subst}
use Rattle.g4_source.specs.First.{FindsFirst}
use Rattle.g4_fetch.specs.declared.closure.GrammarFile.{GrammarFile}
use Rattle.g4_imports.specs.Faults.{CannotImport, RepeatsRule}
use Rattle.g4_imports.specs.declared.fault.ImportFault.{ImportFault}
use Rattle.g4_imports.proofs.Reported.{of_file, of_import}
use Rattle.g4_imports.proofs.composite.check_imports.Goals as goal

pub returns-in-Some : goal.returns-in-Some
returns-in-Some c =
    let grammar = c.args.grammar.now in
    of_file grammar c.in-Some.fault
    (subst (λ (found : Option ImportFault). FindsFirst RepeatsRule grammar.files found) c.in-Some.is
    (subst (λ (files : List GrammarFile). FindsFirst RepeatsRule files c.in_ok-fault.field-0) c.as_slice.ensures c.in_ok-fault.ensures))

pub returns-in-Some-2 : goal.returns-in-Some-2
returns-in-Some-2 c =
    let grammar = c.args.grammar.now in
    of_import grammar c.in-Some-2.fault
    (subst (λ (found : Option ImportFault). FindsFirst RepeatsRule grammar.files found) c.in_default.is
    (subst (λ (files : List GrammarFile). FindsFirst RepeatsRule files c.in_ok-fault.field-0) c.as_slice.ensures c.in_ok-fault.ensures))
    (subst (λ (found : Option ImportFault). FindsFirst (CannotImport grammar) grammar.imports found) c.in-Some-2.is
    c.in_ok-fault-2.ensures)

pub returns : goal.returns
returns c =
    let grammar = c.args.grammar.now in (
      subst (λ (found : Option ImportFault). FindsFirst RepeatsRule grammar.files found) c.in_default.is
          (subst (λ (files : List GrammarFile). FindsFirst RepeatsRule files c.in_ok-fault.field-0) c.as_slice.ensures
          c.in_ok-fault.ensures),
      subst (λ (found : Option ImportFault). FindsFirst (CannotImport grammar) grammar.imports found) c.in_default-2.is
          c.in_ok-fault-2.ensures,
    )
