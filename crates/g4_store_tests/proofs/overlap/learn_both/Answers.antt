use Rattle.std.proofs.Common.{ap, arith}
use Rattle.g4_store.specs.declared.automaton.Plan.{Plan}
use Rattle.g4_store_tests.proofs.overlap.learn_both.Goals as goal

pub both-requires-clause-one : goal.both-requires-clause-one
both-requires-clause-one g c = λ _ _.
    let e = c.in_ok-opened.ensures in
    c.in_ok-path.ensures c.in_ok-opened.opened.plan (ap (λ (p : Plan _). p.net) e) (ap (λ (p : Plan _). p.columns) e)
    (let a = ap (λ (p : Plan _). p.starts) e in omega arith)

pub both-requires-clause-two : goal.both-requires-clause-two
both-requires-clause-two g c = λ _ _.
    let e = c.in_ok-opened.ensures in
    c.in_ok-other_path.ensures c.in_ok-opened.opened.plan (ap (λ (p : Plan _). p.net) e) (ap (λ (p : Plan _). p.columns) e)
    (let a = ap (λ (p : Plan _). p.starts) e in omega arith)
