use Rattle.std.proofs.Common.{inr}
use Rattle.g4_learned.specs.declared.target.Target.TheVariants.{Ended, NotLearned, Row}
use Rattle.g4_decide.proofs.Going.{came_kept, keeps_on, next_symbol}
use Rattle.g4_decide.proofs.Steps.{found_end, found_keeps, found_row, step_from}
use Rattle.g4_decide.proofs.stepping.next_step.Goals as goal

pub target-target-requires-clause-row : goal.target-target-requires-clause-row
target-target-requires-clause-row g c = let (q, (came, has), next) = c.requires in (came.content, came.known)

pub target-target-requires-clause-place : goal.target-target-requires-clause-place
target-target-requires-clause-place g c = let (q, (came, has), next) = c.requires in came.number

pub target-target-requires-clause-symbol : goal.target-target-requires-clause-symbol
target-target-requires-clause-symbol g c =
    let (q, (came, has), next) = c.requires in
    next_symbol g.B.Home.plan q c.args.at c.args.here.row c.args.pass.now came c.args.symbol next

pub returns-in-Ended-clause-keeps : goal.returns-in-Ended-clause-keeps
returns-in-Ended-clause-keeps g c = λ q (came, has) next.
    found_keeps g.B.Home.plan q c.args.at c.args.here.row c.args.pass.now came c.args.symbol next c.target-target.new.pass
    (Ended c.in-Ended.verdict) (c.in-Ended.ensures.finds came.content came.known) c.in-Ended.ensures.same

pub returns-in-Ended-clause-step : goal.returns-in-Ended-clause-step
returns-in-Ended-clause-step g c = λ q (came, has) next.
    found_end g.B.Home.plan q c.args.at c.args.here.row c.args.pass.now came c.args.symbol next c.target-target.new.pass
    c.in-Ended.verdict (c.in-Ended.ensures.finds came.content came.known) c.in-Ended.ensures.same c.in-Ended.ensures.full
    c.in-Ended.ensures.rows

pub returns-in-Row-clause-keeps : goal.returns-in-Row-clause-keeps
returns-in-Row-clause-keeps g c = λ q (came, has) next.
    found_keeps g.B.Home.plan q c.args.at c.args.here.row c.args.pass.now came c.args.symbol next c.target-target.new.pass
    (Row c.in-Row.row) (c.in-Row.ensures.finds came.content came.known) c.in-Row.ensures.same

pub returns-in-Row-clause-step : goal.returns-in-Row-clause-step
returns-in-Row-clause-step g c = λ q (came, has) next.
    let (on, led_on) = found_row g.B.Home.plan q c.args.at c.args.here.row c.args.pass.now came c.args.symbol next c.target-target.new.pass
    c.in-Row.row (c.in-Row.ensures.finds came.content came.known) c.in-Row.ensures.same c.in-Row.ensures.rows in
    ((on, tt), c.in-Row.ensures.full)

pub returns-then-was_full-clause-keeps : goal.returns-then-was_full-clause-keeps
returns-then-was_full-clause-keeps g c = λ q (came, has) next.
    found_keeps g.B.Home.plan q c.args.at c.args.here.row c.args.pass.now came c.args.symbol next c.target-target.new.pass NotLearned
    (c.in-NotLearned.ensures.finds came.content came.known) c.in-NotLearned.ensures.same

pub returns-then-was_full-clause-step : goal.returns-then-was_full-clause-step
returns-then-was_full-clause-step g c = λ q (came, has) next.
    let p = g.B.Home.plan in
    let old = c.args.pass.now in
    let mid = c.target-target.new.pass in
    let kept = found_keeps p q c.args.at c.args.here.row old came c.args.symbol next mid NotLearned
    (c.in-NotLearned.ensures.finds came.content came.known) c.in-NotLearned.ensures.same in (
      came_kept p q c.args.at c.args.here.row old came mid kept,
      inr c.in-NotLearned.ensures.full,
      c.in-NotLearned.ensures.rows,
    )

pub make_step-requires : goal.make_step-requires
make_step-requires g c =
    let p = g.B.Home.plan in
    let (q, (came, has), next) = c.requires in
    let old = c.args.pass.now in
    let mid = c.target-target.new.pass in
    let kept = found_keeps p q c.args.at c.args.here.row old came c.args.symbol next mid NotLearned
    (c.in-NotLearned.ensures.finds came.content came.known) c.in-NotLearned.ensures.same in
    (q, (came_kept p q c.args.at c.args.here.row old came mid kept, has), next)

pub returns-in_err-made-in-NotLearned-clause-keeps : goal.returns-in_err-made-in-NotLearned-clause-keeps
returns-in_err-made-in-NotLearned-clause-keeps g c = λ q (came, has) next.
    let p = g.B.Home.plan in
    let old = c.args.pass.now in
    let mid = c.target-target.new.pass in
    let kept = found_keeps p q c.args.at c.args.here.row old came c.args.symbol next mid NotLearned
    (c.in-NotLearned.ensures.finds came.content came.known) c.in-NotLearned.ensures.same in
    keeps_on p q old mid c.make_step.new.pass kept (c.in_err-made-in-NotLearned.ensures.keeps q
    (came_kept p q c.args.at c.args.here.row old came mid kept, has) next)

pub returns-in_ok-made-in-NotLearned-clause-keeps : goal.returns-in_ok-made-in-NotLearned-clause-keeps
returns-in_ok-made-in-NotLearned-clause-keeps g c = λ q (came, has) next.
    let p = g.B.Home.plan in
    let old = c.args.pass.now in
    let mid = c.target-target.new.pass in
    let kept = found_keeps p q c.args.at c.args.here.row old came c.args.symbol next mid NotLearned
    (c.in-NotLearned.ensures.finds came.content came.known) c.in-NotLearned.ensures.same in
    keeps_on p q old mid c.make_step.new.pass kept (c.in_ok-made-in-NotLearned.ensures.keeps q
    (came_kept p q c.args.at c.args.here.row old came mid kept, has) next)

pub returns-in_ok-made-in-NotLearned-clause-step : goal.returns-in_ok-made-in-NotLearned-clause-step
returns-in_ok-made-in-NotLearned-clause-step g c = λ q (came, has) next.
    let p = g.B.Home.plan in
    let old = c.args.pass.now in
    let mid = c.target-target.new.pass in
    let kept = found_keeps p q c.args.at c.args.here.row old came c.args.symbol next mid NotLearned
    (c.in-NotLearned.ensures.finds came.content came.known) c.in-NotLearned.ensures.same in
    step_from p q c.args.at old mid c.make_step.new.pass c.in_ok-made-in-NotLearned.made c.in-NotLearned.ensures.full
    (c.in_ok-made-in-NotLearned.ensures.step q (came_kept p q c.args.at c.args.here.row old came mid kept, has) next)
