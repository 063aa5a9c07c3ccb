use Rattle.std.proofs.Common.{◌≡◌, ◌+◌, ◌<◌, List, length, sym, ap, ◌∙◌, subst, arith, below_more}
use mathlib.Core.Option.{some}
use lib.ListN.{get_elem?}
use Rattle.g4_core.specs.States.{State}
use Rattle.g4_core.proofs.Lists.{in_range, one_there}
use Rattle.g4_core.proofs.Finding.{read}
use Rattle.g4_core.proofs.machine.Core.find.Goals as goal

pub returns-then-same : goal.returns-then-same
returns-then-same g c =
    let xs = c.deref-held-items.result.now in
    let rows : c.deref-held-items.result.now ≡ c.args.self.now.rows =
    c.deref-held-items.ensures.value ∙ ap (λ (s : State g.row.N.Denot g.row.C.Denot). s.rows) c.self.view_is in
    let lt : c.loop-row.row < length c.deref-held-items.result.now = omega arith in
    let item = read c.deref-held-items.result.now c.loop-row.row c.held-item.result lt c.held-item.is in
    subst (λ (l : List g.row.C.Denot). get_elem? l c.loop-row.row ≡ some c.args.content.now) rows
    (item ∙ ap some (c.same.ensures.0 c.if-same.true))

pub loop-row-preserved : goal.loop-row-preserved
loop-row-preserved g c =
    let rows : c.deref-held-items.result.now ≡ c.args.self.now.rows =
    c.deref-held-items.ensures.value ∙ ap (λ (s : State g.row.N.Denot g.row.C.Denot). s.rows) c.self.view_is in
    let lt : c.loop-row.row < length c.deref-held-items.result.now = omega arith in
    let item = read c.deref-held-items.result.now c.loop-row.row c.held-item.result lt c.held-item.is in
    let here : get_elem? c.args.self.now.rows c.loop-row.row ≡ some c.held-item.result =
    subst (λ (l : List g.row.C.Denot). get_elem? l c.loop-row.row ≡ some c.held-item.result) rows item in
    below_more _ _ c.loop-row.invariant
    (λ h. let yes = c.same.ensures.1 (one_there c.args.self.now.rows c.loop-row.row c.held-item.result c.args.content.now here h) in cc)

pub returns : goal.returns
returns g c =
    let rows : c.deref-held-items.result.now ≡ c.args.self.now.rows =
    c.deref-held-items.ensures.value ∙ ap (λ (s : State g.row.N.Denot g.row.C.Denot). s.rows) c.self.view_is in
    let size : length c.deref-held-items.result.now ≡ length c.args.self.now.rows = ap length rows in
    λ h. let within = in_range c.args.self.now.rows h.0 c.args.content.now h.1 in c.loop-row.invariant h.0 (omega arith) h.1
