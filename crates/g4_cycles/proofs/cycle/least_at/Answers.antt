use Rattle.std.proofs.Common.{rules, ◌≡◌, ◌+◌, List, ℕ, Some, take, get_or, sym, ◌∙◌, subst}
use Rattle.std.proofs.lemmas.List.{take_all}
use Rattle.g4_cycles.specs.Marks.{IsAtDistance, IsLeast, distance_of}
use Rattle.g4_cycles.proofs.Least.{at_more, at_no_more}
use Rattle.g4_cycles.proofs.cycle.least_at.Goals as goal
use Rattle.g4_cycles.proofs.cycle.least_at.Goals.{then-eq, else-eq}

pub loop-node-preserved : goal.loop-node-preserved
loop-node-preserved c =
    let d = c.args.distances.now in
    let nodes = c.args.nodes.now in
    let i = c.loop-node.node-index in
    let old = c.loop-node.least in
    elim c.if-eq.branch [
      | then-eq w ↦ (
          let at : distance_of d (get_or nodes i 0) ≡ Some c.args.wanted = search rules in
          at_more d nodes c.args.wanted i old c.if-eq.least c.loop-node-test.true at (w.least-is ∙ w.lesser-least.ensures)
          c.loop-node.invariant
          )
      | else-eq w ↦ subst (IsLeast (IsAtDistance d (take (i + 1) nodes) c.args.wanted)) (sym w.least-is)
          (at_no_more d nodes c.args.wanted i old c.loop-node-test.true (λ at. search (rules, at)) c.loop-node.invariant)
    ]

pub returns : goal.returns
returns c = subst (λ (xs : List ℕ). IsLeast (IsAtDistance c.args.distances.now xs c.args.wanted) c.loop-node.least)
    (take_all c.loop-node.node-index c.args.nodes.now c.loop-node-test.false) c.loop-node.invariant
