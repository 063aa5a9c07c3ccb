use Rattle.std.proofs.Common.{◌≡◌, ◌∙◌, sym}
use Rattle.std.specs.Bool.{Decides}
use Rattle.std.proofs.lemmas.Bool.Decides.{Decides-eqb}
use Rattle.std.proofs.lemmas.Slice.Eq.{slice_eq-Decides}
use Rattle.g4_stacks.proofs.Shapes.{same_by_roots, differ_by_nodes}
use Rattle.g4_stacks.proofs.shape.Shape.same.Goals as goal

pub returns-then-same_contents : goal.returns-then-same_contents
returns-then-same_contents c =
    let left = c.as_slice-then-same_contents in
    let right = c.as_slice-then-same_contents-2 in
    let roots : Decides c.eq.result (left.result.now ≡ right.result.now) =
    slice_eq-Decides Decides-eqb left.result.now right.result.now c.eq.result c.eq.ensures in
    let nodes : c.self.inside.nodes.items ≡ c.other.inside.nodes.items =
    sym c.as_slice.ensures.value ∙ (c.same_contents.ensures.0 c.if-same_contents.true ∙ c.as_slice-2.ensures.value) in
    same_by_roots c.self.inside.nodes.items c.other.inside.nodes.items c.self.inside.roots.items c.other.inside.roots.items
    c.args.self.now c.args.other.now
    c.self.invariant c.other.invariant c.self.view_is c.other.view_is nodes c.eq.result
    (λ t. sym left.ensures.value ∙ (roots.0 t ∙ right.ensures.value))
    (λ e. roots.1 (left.ensures.value ∙ (e ∙ sym right.ensures.value)))

pub returns-else-same_contents : goal.returns-else-same_contents
returns-else-same_contents c =
    differ_by_nodes c.self.inside.nodes.items c.other.inside.nodes.items c.self.inside.roots.items c.other.inside.roots.items
    c.args.self.now c.args.other.now
    c.self.invariant c.other.invariant c.self.view_is c.other.view_is c.same_contents.result c.if-same_contents.false
    (λ e. c.same_contents.ensures.1 (c.as_slice.ensures.value ∙ (e ∙ sym c.as_slice-2.ensures.value)))
