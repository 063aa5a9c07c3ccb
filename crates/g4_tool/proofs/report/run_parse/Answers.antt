use Rattle.std.proofs.Common.{◌≡◌, ap, arith, ◌∙◌, Err, List, ℕ, length, subst, Vec, Global}
use Rattle.std.proofs.lemmas.Result.{err_from_is_err_and}
use Rattle.g4_load.specs.Usable.{with_flags}
use Rattle.g4_load.specs.declared.interpreter.Interpreter.{Interpreter}
use Rattle.g4_outcome.specs.declared.input.Input.{Input}
use Rattle.g4_tool.specs.Cells.{Refuses}
use Rattle.g4_tool.specs.Files.{AreParsed}
use Rattle.g4_tool.specs.Inputs.{GivesInputs, inputs_of}
use Rattle.g4_tool.specs.Learned.{IsTold}
use Rattle.g4_tool.proofs.Counted.{refused_counts, counts_before}
use Rattle.g4_tool.proofs.Reports.{stops_unbuilt, stops_many, stops_absent, reports_files}
use Rattle.g4_tool.proofs.report.run_parse.Goals as goal

pub returns-in_err-interpreter-clause-content : goal.returns-in_err-interpreter-clause-content
returns-in_err-interpreter-clause-content g c = λ files words told command.
    let p = err_from_is_err_and c.from_residual.result c.from_residual.ensures.1 in
    rw (p.1, p.2) (stops_unbuilt files words _ command c.in_err-interpreter.field-0.0
    (rw (c.as_str-grammar.ensures, c.as_str-start.ensures, c.named-library.ensures) at (c.in_err-interpreter.ensures.content files told)))

pub returns-in_err-check_cells-clause-content : goal.returns-in_err-check_cells-clause-content
returns-in_err-check_cells-clause-content g c = λ files words told command.
    let p = err_from_is_err_and c.from_residual-in_err-check_cells.result c.from_residual-in_err-check_cells.ensures.1 in
    rw (p.1, p.2)
    (stops_many files words _ command c.in_ok-interpreter.interpreter
    (rw (c.as_str-grammar.ensures, c.as_str-start.ensures, c.named-library.ensures) at (c.in_ok-interpreter.ensures.content files told))
    c.in_err-check_cells.field-0.0
    (subst (λ (n : List ℕ). Refuses n c.args.parse.now.rows c.in_ok-interpreter.interpreter (Err c.in_err-check_cells.field-0.0))
    c.as_str-grammar.ensures c.in_err-check_cells.ensures))

pub returns-in_err-inputs-clause-content : goal.returns-in_err-inputs-clause-content
returns-in_err-inputs-clause-content g c = λ files words told command.
    let p = err_from_is_err_and c.from_residual-in_err-inputs.result c.from_residual-in_err-inputs.ensures.1 in
    rw (p.1, p.2)
    (stops_absent files words _ command c.in_ok-interpreter.interpreter
    (rw (c.as_str-grammar.ensures, c.as_str-start.ensures, c.named-library.ensures) at (c.in_ok-interpreter.ensures.content files told))
    c.in_ok-check_cells.ensures
    (λ (v : Vec Input Global). v.items) c.in_err-inputs.field-0.0
    (subst (λ (ns : List (List ℕ)). GivesInputs (λ (v : Vec Input Global). v.items) (inputs_of files ns)
    (Err c.in_err-inputs.field-0.0)) c.as_slice-names.ensures
    (c.in_err-inputs.ensures.content files (c.in_ok-interpreter.ensures.keeps ∙ told))))

pub returns-clause-content : goal.returns-clause-content
returns-clause-content g c = λ files words told command.
    let parse = c.args.parse.now in
    let interpreter = c.in_ok-interpreter.interpreter in
    let given : c.in_ok-flags.flags ≡ parse.flags = c.in_ok-flags.ensures ∙ c.as_slice.ensures in
    let flagged : c.with_flags-flagged.result ≡ with_flags parse.flags interpreter =
    c.with_flags-flagged.ensures.same ∙ ap (λ (flags : List (List ℕ)). with_flags flags interpreter) given in
    let parsed =
    subst (λ (i : Interpreter). AreParsed parse.output i parse.files c.in_ok-inputs.inputs.items c.in_ok-parsed.parsed.parsed) flagged
    (rw c.as_slice-names.ensures at c.in_ok-parsed.ensures.parsed) in
    let learned =
    subst (λ (i : Interpreter). IsTold parse.learned parse.rows i c.in_ok-inputs.inputs.items c.in_ok-parsed.parsed.learned) flagged
    c.in_ok-parsed.ensures.told in
    reports_files files words _ command interpreter
    (rw (c.as_str-grammar.ensures, c.as_str-start.ensures, c.named-library.ensures) at (c.in_ok-interpreter.ensures.content files told))
    c.in_ok-check_cells.ensures
    _ _ _ _ _
    (rw c.as_slice-names.ensures at (c.in_ok-inputs.ensures.content files (c.in_ok-interpreter.ensures.keeps ∙ told)))
    (rw c.as_slice-names.ensures at c.in_ok-inputs.ensures.paired)
    (ap length c.as_slice-names.ensures)
    parsed
    learned
    c.in_ok-report.ensures.report

pub returns-in_err-check_cells-clause-counts : goal.returns-in_err-check_cells-clause-counts
returns-in_err-check_cells-clause-counts g c =
    let p = err_from_is_err_and c.from_residual-in_err-check_cells.result c.from_residual-in_err-check_cells.ensures.1 in
    let counts = c.in_ok-interpreter.ensures.counts in
    rw (p.1, p.2) (refused_counts _ c.args.parse.now.rows c.in_ok-interpreter.interpreter c.in_err-check_cells.field-0.0 _ _ _ _
    c.in_err-check_cells.ensures counts.0 counts.1)

pub returns-in_err-inputs-clause-counts : goal.returns-in_err-inputs-clause-counts
returns-in_err-inputs-clause-counts g c =
    let p = err_from_is_err_and c.from_residual-in_err-inputs.result c.from_residual-in_err-inputs.ensures.1 in
    let counts = c.in_ok-interpreter.ensures.counts in
    rw (p.1, p.2) (counts_before _ _ _ _ _ c.in_err-inputs.field-0.0 counts.0 counts.1 _ c.in_err-inputs.ensures.counts)

pub returns-in_err-flags-clause-content : goal.returns-in_err-flags-clause-content
returns-in_err-flags-clause-content g c = λ files words told command.
    let p = err_from_is_err_and c.from_residual-in_err-flags.result c.from_residual-in_err-flags.ensures.1 in
    rw (p.1, p.2) tt

pub returns-in_err-flags-clause-counts : goal.returns-in_err-flags-clause-counts
returns-in_err-flags-clause-counts g c =
    let p = err_from_is_err_and c.from_residual-in_err-flags.result c.from_residual-in_err-flags.ensures.1 in
    let built = c.in_ok-interpreter.ensures.counts in
    let fetched = c.in_ok-inputs.ensures.counts in
    rw (p.1, p.2) (fetched.0 ∙ built.0, omega (arith, built.1, fetched.1))

pub returns-in_err-parsed-clause-content : goal.returns-in_err-parsed-clause-content
returns-in_err-parsed-clause-content g c = λ files words told command.
    let p = err_from_is_err_and c.from_residual-in_err-parsed.result c.from_residual-in_err-parsed.ensures.1 in
    rw (p.1, p.2) tt

pub returns-in_err-report-clause-content : goal.returns-in_err-report-clause-content
returns-in_err-report-clause-content g c = λ files words told command.
    let p = err_from_is_err_and c.from_residual-in_err-report.result c.from_residual-in_err-report.ensures.1 in
    rw (p.1, p.2) tt
