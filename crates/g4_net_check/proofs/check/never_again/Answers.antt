use Rattle.std.proofs.Common.{◌↔◌, ℕ, Vec, Bool, IsTrue, option_map, sym, subst}
use Rattle.std.specs.Global.{Global}
use Rattle.g4_cycles.specs.Edges.{Graph, EdgeOf}
use Rattle.g4_cycles.proofs.SameEdges.{answer_carries}
use Rattle.g4_net_check.specs.Steps.{StepsTo, NeverAgain}
use Rattle.g4_net_check.proofs.Sound.{cycle_answer, none_told}
use Rattle.g4_net_check.proofs.check.never_again.Goals as goal

pub returns : goal.returns
returns g c =
    let net = c.args.net.now in
    let graph = c.as_slice-2.result.now in
    let items = λ (v : Vec ℕ Global). v.items in
    let found = option_map items c.in_ok-cycle.cycle in
    let steps : (p t : ℕ) → EdgeOf graph p t ↔ StepsTo net p t =
    subst (λ (e : Graph). (p t : ℕ) → EdgeOf e p t ↔ StepsTo net p t) (sym c.as_slice-2.ensures.value) c.in_ok-graph.ensures.steps in
    let answer = cycle_answer net found (answer_carries (EdgeOf graph) (StepsTo net) steps found c.in_ok-cycle.ensures) in
    subst (λ (b : Bool). IsTrue b ↔ NeverAgain net) (none_told items c.in_ok-cycle.cycle c.is_none.result c.is_none.ensures) answer
