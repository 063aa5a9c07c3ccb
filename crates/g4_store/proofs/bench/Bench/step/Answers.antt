use Rattle.std.proofs.Common.{[], ◌∷◌, ◌++◌, true, Some, None, sym, subst}
use Rattle.g4_store.specs.declared.automaton.Led.{Led}
use Rattle.g4_store.specs.declared.automaton.Led.TheVariants.{Row, End}
use Rattle.g4_store.specs.declared.automaton.Fact.TheVariants.{Cell}
use Rattle.g4_store.specs.Paths.{Onward, IsAt, Followed}
use Rattle.g4_store.proofs.Following.{step_row, step_refused, step_end, passed_one, find_at}
use Rattle.g4_store.proofs.bench.Bench.step.Goals as goal

pub returns-in-Some-learn_row : goal.returns-in-Some-learn_row
returns-in-Some-learn_row g c = λ x at b0 done f.
    let here = subst (IsAt c.args.self.now c.args.progress.full x) c.in-Some.is at in
    let k = c.in-Some-learn_row.ensures x here.0 in
    subst (λ (led : Led _). Followed g.B.Home.plan.rows (done ++ Cell x c.args.looked.column led ∷ []) b0 c.learn_row.new.self
    c.args.progress.full × Onward led (λ y. IsAt c.learn_row.new.self c.args.progress.full y (Some c.in-Some-learn_row.target)))
    (sym c.in-Row.is)
    (step_row g.B.Home.plan.rows done b0 c.args.self.now c.learn_row.new.self c.args.progress.full x c.in-Row.content c.in-Some.row
    c.args.looked.column c.in-Row.mark c.in-Some-learn_row.target f here k)

pub returns-in-None-learn_row : goal.returns-in-None-learn_row
returns-in-None-learn_row g c = λ x at b0 done f.
    let here = subst (IsAt c.args.self.now c.args.progress.full x) c.in-Some.is at in
    let k = c.in-None-learn_row.ensures x here.0 in
    subst (λ (led : Led _). Followed g.B.Home.plan.rows (done ++ Cell x c.args.looked.column led ∷ []) b0 c.learn_row.new.self true
    × Onward led (λ y. IsAt c.learn_row.new.self true y None)) (sym c.in-Row.is)
    (step_refused g.B.Home.plan.rows done b0 c.args.self.now c.learn_row.new.self c.args.progress.full x c.in-Row.content
    c.args.looked.column c.in-Row.mark f k)

pub returns-in-None : goal.returns-in-None
returns-in-None g c = λ x at b0 done f.
    let here = subst (IsAt c.args.self.now c.args.progress.full x) c.in-None.is at in
    subst (λ (led : Led _). Followed g.B.Home.plan.rows (done ++ Cell x c.args.looked.column led ∷ []) b0 c.args.self.now
    c.args.progress.full × Onward led (λ y. IsAt c.args.self.now c.args.progress.full y c.find.result)) (sym c.in-Row.is) (
      passed_one g.B.Home.plan.rows done b0 c.args.self.now c.args.progress.full
          (Cell x c.args.looked.column (Row c.in-Row.content c.in-Row.mark)) f here.0 (λ w. here.1 w.0),
      find_at c.args.self.now c.args.progress.full c.in-Row.content c.find.result c.find.ensures.some c.find.ensures.none here.0,
    )

pub returns-in-Some-at : goal.returns-in-Some-at
returns-in-Some-at g c = λ x at b0 done f.
    let here = subst (IsAt c.args.self.now c.args.progress.full x) c.in-Some-at.is at in
    let k = c.learn_end.ensures x here.0 in
    subst (λ (led : Led _). Followed g.B.Home.plan.rows (done ++ Cell x c.args.looked.column led ∷ []) b0 c.learn_end.new.self
    c.args.progress.full × Onward led (λ y. IsAt c.learn_end.new.self c.args.progress.full y c.args.progress.at)) (sym c.in-End.is) (
      step_end g.B.Home.plan.rows done b0 c.args.self.now c.learn_end.new.self c.args.progress.full x c.in-Some-at.row
          c.args.looked.column c.in-End.code f here k,
      tt,
    )

pub returns-in-None-at : goal.returns-in-None-at
returns-in-None-at g c = λ x at b0 done f.
    let here = subst (IsAt c.args.self.now c.args.progress.full x) c.in-None-at.is at in
    subst (λ (led : Led _). Followed g.B.Home.plan.rows (done ++ Cell x c.args.looked.column led ∷ []) b0 c.args.self.now
    c.args.progress.full × Onward led (λ y. IsAt c.args.self.now c.args.progress.full y c.args.progress.at)) (sym c.in-End.is) (
      passed_one g.B.Home.plan.rows done b0 c.args.self.now c.args.progress.full (Cell x c.args.looked.column (End c.in-End.code)) f
          here.0 (λ w. here.1 w.0),
      tt,
    )
