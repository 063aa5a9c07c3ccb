use Rattle.std.proofs.Common.{◌≡◌, ◌≤◌, List, length, map, Some, ap, subst, arith}
use Rattle.std.specs.List.{slice_get}
use Rattle.g4_source.specs.Elements.{Elements}
use Rattle.g4_source.specs.Trees.{element_of, in_order}
use Rattle.g4_recursion.specs.declared.lead.Lead.{Lead}
use Rattle.g4_recursion.proofs.Nodes.{elements_at}
use Rattle.g4_recursion.proofs.LeadsRunning.{runs_end, runs_step}
use Rattle.g4_recursion.proofs.calls.of_rule.Goals as goal

pub loop-elements-preserved : goal.loop-elements-preserved
loop-elements-preserved c =
    let xs = c.args.rule.now.alternatives in
    let i = c.loop-elements.elements-index in
    let x = in_order (map element_of c.as_slice.result.now) in
    let lent = c.as_slice-elements-items.result.now in
    let whole : lent ≡ xs = c.as_slice-elements-items.ensures in
    let here : slice_get xs i ≡ Some x = subst (λ (ys : List (Elements Lead)). slice_get ys i ≡ Some x) whole
    (elements_at lent i c.elements-item.result c.as_slice.result.now (omega arith) c.elements-item.is c.as_slice.ensures) in
    λ rules operators told may.
    runs_step rules operators c.args.number xs i x c.loop-elements.calls.items c.of_alternative.new.calls.items here
    (c.in_ok-of_alternative.ensures rules operators told may) (c.loop-elements.invariant rules operators told may)

pub returns : goal.returns
returns c =
    let xs = c.args.rule.now.alternatives in
    let past : length xs ≤ c.loop-elements.elements-index = omega (arith, ap length c.as_slice-elements-items.ensures) in
    λ rules operators told may. runs_end rules operators c.args.number xs c.loop-elements.elements-index c.loop-elements.calls.items
    past (c.loop-elements.invariant rules operators told may)
