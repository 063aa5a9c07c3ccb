use Rattle.std.proofs.Common.{◌<◌, ◌++◌, ◌∷◌, [], IfOk, length, arith, ap, sym, subst}
use Rattle.g4_outcome.specs.Grammars.{with_net}
use Rattle.g4_outcome.specs.Inputs.{IsSmall}
use Rattle.g4_pool.specs.Done.{HasDone}
use Rattle.g4_pool.specs.Files.{Files, IsReportAt, Pooled, files_of}
use Rattle.g4_pool.proofs.Reported.{all_read, done_at, report_at}
use Rattle.g4_pool.proofs.file_work.FileWorkWorkWorkerStateFileReport.run.Goals as goal

pub report_one-report-requires-clause-small : goal.report_one-report-requires-clause-small
report_one-report-requires-clause-small g c =
    all_read IsSmall g.B.InputsHome.inputs c.args.file c.in_ok-input.input c.self.invariant.1 c.in_ok-input.ensures

pub returns-clause-outcome : goal.returns-clause-outcome
returns-clause-outcome g c =
    let w = c.self.inside in
    let files : Files = files_of w.output (with_net w.grammar.now g.B.Home.plan.net.net) w.names.now g.B.InputsHome.inputs in
    let in_names : c.args.file < length files.names =
    omega (arith, c.requires, c.self.invariant.2, ap (λ (v : Pooled). length v.files.inputs) c.self.view_is) in
    subst (λ (v : Pooled). IfOk c.report_one-report.result (IsReportAt v.files c.args.file)) c.self.view_is
    (report_at files c.args.file c.index-self-file.result _ c.in_ok-input.input c.report_one-report.result in_names
    c.index-self-file.is c.in_ok-input.ensures (sym c.index-self-file.is) c.report_one-report.ensures.report)

pub returns-clause-done : goal.returns-clause-done
returns-clause-done g c numbers done has =
    let w = c.self.inside in
    let p = g.B.Home.plan in
    let files : Files = files_of w.output (with_net w.grammar.now p.net.net) w.names.now g.B.InputsHome.inputs in
    let had = subst (λ (v : Pooled). HasDone p v.files v.jobs numbers done c.args.state.now.pass) (sym c.self.view_is) has in
    let now = c.report_one-report.new.state.pass in
    subst (λ (v : Pooled). IfOk c.report_one-report.result (λ _. HasDone p v.files v.jobs numbers (done ++ c.args.file ∷ []) now))
    c.self.view_is
    (done_at p files w.jobs numbers done c.args.file c.in_ok-input.input c.args.state.now.pass now c.report_one-report.result had
    c.in_ok-input.ensures c.report_one-report.ensures.taught)
