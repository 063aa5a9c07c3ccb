use Rattle.std.proofs.Common.{◌≡◌, ◌<◌, ◌∙◌, ℕ, List, All, length, sym, ap, subst}
use Rattle.g4_stacks.specs.Canonical.{IsCanonical}
use Rattle.g4_stacks.proofs.Shapes.{copy_canonical, copy_roots}
use Rattle.g4_stacks.proofs.Sums.{sums_in}
use Rattle.g4_stacks.proofs.shape.Shape.sums.Goals as goal

pub sums_of_nodes-requires : goal.sums_of_nodes-requires
sums_of_nodes-requires c =
    subst IsCanonical (sym c.as_slice.ensures.value) (copy_canonical c.self.inside.nodes.items c.self.inside.roots.items c.self.invariant)

pub sums_at-requires : goal.sums_at-requires
sums_at-requires c =
    let nodes = c.self.inside.nodes.items in
    let roots = c.self.inside.roots.items in
    let many : length c.as_slice-2.result.now ≡ length nodes =
    ap length c.as_slice-2.ensures.value ∙ (c.in_ok-sums.ensures.count ∙ ap length c.as_slice.ensures.value) in
    subst (λ (places : List ℕ). All (λ place. place < length c.as_slice-2.result.now) places) (sym c.as_slice-3.ensures.value)
    (sums_in (length c.as_slice-2.result.now) nodes roots (copy_roots nodes roots c.self.invariant) many)
