use Rattle.std.proofs.Common.{rules, ◌≡◌, List, Some, slice_get, subst}
use Rattle.g4_stacks.specs.Graph.{Content}
use Rattle.g4_stacks.specs.Table.{one_of}
use Rattle.g4_stacks.proofs.Parts.{one_part}
use Rattle.g4_stacks.proofs.graph.Graph.has_one.Goals as goal

pub returns-in-Some : goal.returns-in-Some
returns-in-Some c = λ held.
    let node_is : slice_get c.args.self.now c.args.node ≡ Some c.get-in-Some.result.now =
    subst (λ (g : List Content). slice_get g c.args.node ≡ Some c.get-in-Some.result.now) c.self.view_is c.get-in-Some.ensures in
    let found : slice_get c.args.self.now c.args.part ≡ Some c.get.result.now =
    subst (λ (g : List Content). slice_get g c.args.part ≡ Some c.get.result.now) c.self.view_is c.get.ensures in
    let one : c.get.result.now ≡ one_of c.in-Some.state c.in-Some.below = search rules in
    let part_is : slice_get c.args.self.now c.args.part ≡ Some (one_of c.in-Some.state c.in-Some.below) =
    subst (λ (x : Content). slice_get c.args.self.now c.args.part ≡ Some x) one found in
    let (i, top) = c.has_top.ensures held in
    one_part c.args.self.now c.args.node c.args.part i c.in-Some.state c.in-Some.below c.get-in-Some.result.now node_is part_is top
