use Rattle.std.proofs.Common.{drop, refl}
use Rattle.g4_learned.specs.declared.walk.Walk.TheVariants.{Ended, NoEdge, NoStart}
use Rattle.g4_predict.specs.Paths.{verdict_of}
use Rattle.g4_tokens.specs.TokenList.{word_of}
use Rattle.g4_decide.proofs.Going.{asked_from, keeps_on}
use Rattle.g4_decide.proofs.Starting.{asked_here, rest_at, walked_to}
use Rattle.g4_decide.proofs.Telling.{never_no_edge, never_no_start, walk_asks, walk_keeps, walk_loads}
use Rattle.g4_decide.proofs.asking.ask.Goals as goal

pub returns-in-Ended-clause-keeps : goal.returns-in-Ended-clause-keeps
returns-in-Ended-clause-keeps g c =
    walk_keeps g.B.Home.plan c.args.decision c.args.condition (drop c.args.from (word_of c.args.tokens.now)) c.args.pass.now c.walk.new.pass
    (Ended c.in-Ended.verdict c.in-Ended.field-1) c.in-Ended.ensures.walks c.in-Ended.ensures.same

pub returns-in-Ended-clause-asked : goal.returns-in-Ended-clause-asked
returns-in-Ended-clause-asked g c =
    walk_asks g.B.Home.plan c.args.decision c.args.condition (drop c.args.from (word_of c.args.tokens.now)) c.args.pass.now c.walk.new.pass
    c.in-Ended.verdict c.in-Ended.field-1 c.in-Ended.ensures.walks c.in-Ended.ensures.full c.in-Ended.ensures.rows

pub returns-in-Ended-clause-walked : goal.returns-in-Ended-clause-walked
returns-in-Ended-clause-walked g c = λ v facts seen. (
  refl,
  walk_loads g.B.Home.plan c.args.decision c.args.condition (drop c.args.from (word_of c.args.tokens.now)) c.args.pass.now c.walk.new.pass
      c.args.steps.now c.walk.new.steps (Ended c.in-Ended.verdict c.in-Ended.field-1) c.in-Ended.ensures.walks c.in-Ended.ensures.steps
      v facts seen,
)

pub returns-in_err-verdict-in-NoStart-clause-keeps : goal.returns-in_err-verdict-in-NoStart-clause-keeps
returns-in_err-verdict-in-NoStart-clause-keeps g c =
    let p = g.B.Home.plan in
    let q = asked_here c.args.decision c.args.condition c.args.from c.args.tokens.now c.requires.symbols c.requires.ends c.requires.more in
    let old = c.args.pass.now in
    let mid = c.walk.new.pass in
    let kept = walk_keeps p q.decision q.condition q.word old mid NoStart c.in-NoStart.ensures.walks c.in-NoStart.ensures.same in
    keeps_on p q old mid c.begin.new.pass kept c.in_err-verdict-in-NoStart.ensures.keeps

pub returns-in_ok-verdict-in-NoStart-clause-keeps : goal.returns-in_ok-verdict-in-NoStart-clause-keeps
returns-in_ok-verdict-in-NoStart-clause-keeps g c =
    let p = g.B.Home.plan in
    let q = asked_here c.args.decision c.args.condition c.args.from c.args.tokens.now c.requires.symbols c.requires.ends c.requires.more in
    let old = c.args.pass.now in
    let mid = c.walk.new.pass in
    let kept = walk_keeps p q.decision q.condition q.word old mid NoStart c.in-NoStart.ensures.walks c.in-NoStart.ensures.same in
    keeps_on p q old mid c.begin.new.pass kept c.in_ok-verdict-in-NoStart.ensures.keeps

pub returns-in_ok-verdict-in-NoStart-clause-asked : goal.returns-in_ok-verdict-in-NoStart-clause-asked
returns-in_ok-verdict-in-NoStart-clause-asked g c =
    let p = g.B.Home.plan in
    let q = asked_here c.args.decision c.args.condition c.args.from c.args.tokens.now c.requires.symbols c.requires.ends c.requires.more in
    let old = c.args.pass.now in
    let mid = c.walk.new.pass in
    asked_from p q old mid c.begin.new.pass (verdict_of c.in_ok-verdict-in-NoStart.verdict) c.in-NoStart.ensures.full
    c.in_ok-verdict-in-NoStart.ensures.asked

pub returns-in_err-verdict-in-NoStart-clause-walked : goal.returns-in_err-verdict-in-NoStart-clause-walked
returns-in_err-verdict-in-NoStart-clause-walked g c = λ v facts seen.
    absurd (never_no_start g.B.Home.plan c.args.decision c.args.condition (drop c.args.from (word_of c.args.tokens.now)) c.args.pass.now
    c.walk.new.pass c.in-NoStart.ensures.walks v facts seen)

pub returns-in_ok-verdict-in-NoStart-clause-walked : goal.returns-in_ok-verdict-in-NoStart-clause-walked
returns-in_ok-verdict-in-NoStart-clause-walked g c = λ v facts seen.
    absurd (never_no_start g.B.Home.plan c.args.decision c.args.condition (drop c.args.from (word_of c.args.tokens.now)) c.args.pass.now
    c.walk.new.pass c.in-NoStart.ensures.walks v facts seen)

pub go_on-requires-clause-came : goal.go_on-requires-clause-came
go_on-requires-clause-came g c =
    let p = g.B.Home.plan in
    let q = asked_here c.args.decision c.args.condition c.args.from c.args.tokens.now c.requires.symbols c.requires.ends c.requires.more in
    let old = c.args.pass.now in
    let mid = c.walk.new.pass in
    let at = c.in-NoEdge.at in
    let row = c.in-NoEdge.row in
    let came = walked_to c.args.decision c.args.condition c.args.from c.args.tokens.now c.requires.symbols c.requires.ends c.requires.more
    p old mid row at c.in-NoEdge.ensures.plan c.in-NoEdge.ensures.walks c.in-NoEdge.ensures.rows in
    let rest = rest_at c.args.from at c.args.tokens.now in
    (q, came, rest)

pub returns-in_err-verdict-in-NoEdge-clause-keeps : goal.returns-in_err-verdict-in-NoEdge-clause-keeps
returns-in_err-verdict-in-NoEdge-clause-keeps g c =
    let p = g.B.Home.plan in
    let q = asked_here c.args.decision c.args.condition c.args.from c.args.tokens.now c.requires.symbols c.requires.ends c.requires.more in
    let old = c.args.pass.now in
    let mid = c.walk.new.pass in
    let at = c.in-NoEdge.at in
    let row = c.in-NoEdge.row in
    let kept = walk_keeps p q.decision q.condition q.word old mid (NoEdge row at) c.in-NoEdge.ensures.walks c.in-NoEdge.ensures.same in
    let came = walked_to c.args.decision c.args.condition c.args.from c.args.tokens.now c.requires.symbols c.requires.ends c.requires.more
    p old mid row at c.in-NoEdge.ensures.plan c.in-NoEdge.ensures.walks c.in-NoEdge.ensures.rows in
    let rest = rest_at c.args.from at c.args.tokens.now in
    keeps_on p q old mid c.go_on.new.pass kept (c.in_err-verdict-in-NoEdge.ensures.keeps q came rest)

pub returns-in_ok-verdict-in-NoEdge-clause-keeps : goal.returns-in_ok-verdict-in-NoEdge-clause-keeps
returns-in_ok-verdict-in-NoEdge-clause-keeps g c =
    let p = g.B.Home.plan in
    let q = asked_here c.args.decision c.args.condition c.args.from c.args.tokens.now c.requires.symbols c.requires.ends c.requires.more in
    let old = c.args.pass.now in
    let mid = c.walk.new.pass in
    let at = c.in-NoEdge.at in
    let row = c.in-NoEdge.row in
    let kept = walk_keeps p q.decision q.condition q.word old mid (NoEdge row at) c.in-NoEdge.ensures.walks c.in-NoEdge.ensures.same in
    let came = walked_to c.args.decision c.args.condition c.args.from c.args.tokens.now c.requires.symbols c.requires.ends c.requires.more
    p old mid row at c.in-NoEdge.ensures.plan c.in-NoEdge.ensures.walks c.in-NoEdge.ensures.rows in
    let rest = rest_at c.args.from at c.args.tokens.now in
    keeps_on p q old mid c.go_on.new.pass kept (c.in_ok-verdict-in-NoEdge.ensures.keeps q came rest)

pub returns-in_ok-verdict-in-NoEdge-clause-asked : goal.returns-in_ok-verdict-in-NoEdge-clause-asked
returns-in_ok-verdict-in-NoEdge-clause-asked g c =
    let p = g.B.Home.plan in
    let q = asked_here c.args.decision c.args.condition c.args.from c.args.tokens.now c.requires.symbols c.requires.ends c.requires.more in
    let old = c.args.pass.now in
    let mid = c.walk.new.pass in
    let at = c.in-NoEdge.at in
    let row = c.in-NoEdge.row in
    let came = walked_to c.args.decision c.args.condition c.args.from c.args.tokens.now c.requires.symbols c.requires.ends c.requires.more
    p old mid row at c.in-NoEdge.ensures.plan c.in-NoEdge.ensures.walks c.in-NoEdge.ensures.rows in
    let rest = rest_at c.args.from at c.args.tokens.now in
    asked_from p q old mid c.go_on.new.pass (verdict_of c.in_ok-verdict-in-NoEdge.verdict) c.in-NoEdge.ensures.full
    (c.in_ok-verdict-in-NoEdge.ensures.asked q came rest)

pub returns-in_err-verdict-in-NoEdge-clause-walked : goal.returns-in_err-verdict-in-NoEdge-clause-walked
returns-in_err-verdict-in-NoEdge-clause-walked g c = λ v facts seen.
    absurd (never_no_edge g.B.Home.plan c.args.decision c.args.condition (drop c.args.from (word_of c.args.tokens.now)) c.args.pass.now
    c.walk.new.pass c.in-NoEdge.row c.in-NoEdge.at c.in-NoEdge.ensures.walks v facts seen)

pub returns-in_ok-verdict-in-NoEdge-clause-walked : goal.returns-in_ok-verdict-in-NoEdge-clause-walked
returns-in_ok-verdict-in-NoEdge-clause-walked g c = λ v facts seen.
    absurd (never_no_edge g.B.Home.plan c.args.decision c.args.condition (drop c.args.from (word_of c.args.tokens.now)) c.args.pass.now
    c.walk.new.pass c.in-NoEdge.row c.in-NoEdge.at c.in-NoEdge.ensures.walks v facts seen)
