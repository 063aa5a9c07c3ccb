use Rattle.std.proofs.Common.{◌≡◌, ◌-◌, true≢false, sym, ap, ◌∙◌, arith}
use mathlib.Core.Option.{some, some-injective}
use Rattle.g4_store.proofs.Lists.{get_or_there}
use Rattle.g4_store.proofs.Bucketing.{first_on_way, next_on_way}
use Rattle.g4_store.proofs.rows.find_from.Goals as goal

pub loop-link-init : goal.loop-link-init
loop-link-init g c = first_on_way g.C.Content.code c.args.rows.now c.args.newest.now c.args.older.now c.args.content.now c.args.bucket
    c.requires.linked c.requires.bucket.0 c.requires.bucket.1

pub returns-then-same-clause-some : goal.returns-then-same-clause-some
returns-then-same-clause-some g c =
    let l = c.loop-link in
    let within = l.invariant.within in
    get_or_there c.args.rows.now (l.link - 1) c.index-rows-row.result (let t = c.loop-link-test.true in omega arith)
    ∙ ap some (sym c.index-rows-row.is ∙ c.same.ensures.0 c.if-same.true)

pub loop-link-preserved : goal.loop-link-preserved
loop-link-preserved g c =
    let l = c.loop-link in
    let within = l.invariant.within in
    let t = c.loop-link-test.true in
    next_on_way g.C.Content.code c.args.rows.now c.args.newest.now c.args.older.now c.args.content.now c.args.bucket l.link
    c.requires.linked c.requires.bucket.0 (λ z. omega arith)
    (λ e.
    let row : c.index-rows-row.result ≡ c.args.content.now =
    c.index-rows-row.is ∙ some-injective _ _ (sym
    (get_or_there c.args.rows.now (l.link - 1) c.index-rows-row.result (omega arith)) ∙ e) in
    true≢false (sym (c.same.ensures.1 row) ∙ c.if-same.false))
    l.invariant
