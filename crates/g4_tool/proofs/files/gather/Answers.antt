use Rattle.std.proofs.Common.{◌≡◌, ◌≤◌, ◌+◌, ◌++◌, ◌∷◌, [], List, length, cond, arith, rules, length-append, sym, subst, ◌∙◌}
use Rattle.std.proofs.lemmas.Iterator.Adapters.{YieldsList-from_vec}
use Rattle.std.proofs.lemmas.Iterator.Consumers.{YieldsList-end}
use Rattle.std.proofs.lemmas.List.{map-id}
use Rattle.g4_outcome.specs.declared.file_report.FileReport.{FileReport}
use Rattle.g4_tool.proofs.Gathered.{Gathers, gathers_all, gathers_more, one_or_none}
use Rattle.g4_tool.proofs.files.gather.Goals as goal

pub loop-report-preserved : goal.loop-report-preserved
loop-report-preserved c =
    let more = c.in_ok-push_report.ensures in (
      omega (
        arith,
        c.loop-report.invariant.0,
        more.accepted,
        one_or_none c.in-Some.report.accepted,
        length-append c.loop-report.yielded (c.in-Some.report ∷ []),
      ),
      gathers_more c.loop-report.yielded c.in-Some.report c.loop-report.parsed c.push_report.new.parsed c.loop-report.invariant.1
          more.lines more.accepted,
    )

pub returns : goal.returns
returns c =
    let end = YieldsList-end (YieldsList-from_vec {s = c.into_iter-report-iterator.result} c.args.reports.items (search rules)
    (search rules)) c.loop-report.yielded c.loop-report.report-iterator c.loop-report.yielded_by c.next.result c.next.new.self c.in-None.is
    c.next.ensures.steps in
    let all : c.loop-report.yielded ≡ c.args.reports.items = sym (map-id c.loop-report.yielded) ∙ end.0 in
    gathers_all c.args.reports.items c.loop-report.parsed
    (subst (λ (rs : List FileReport). Gathers rs c.loop-report.parsed) all c.loop-report.invariant.1)
