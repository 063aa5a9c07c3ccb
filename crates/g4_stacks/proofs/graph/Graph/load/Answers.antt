use Rattle.std.proofs.Common.{rules, ◌≡◌, ◌<◌, ◌∙◌, ℕ, List, Some, All, length, slice_get, slice_index, map, refl, sym, ap, subst}
use Rattle.std.proofs.lemmas.Option.{slice_get_read}
use Rattle.g4_stacks.specs.Graph.{Content, IsNode}
use Rattle.g4_stacks.specs.Canonical.{LeadBelow, IsCanonical}
use Rattle.g4_stacks.specs.Taking.{with_tops, renumbered}
use Rattle.g4_stacks.specs.Listing.{stacks_of}
use Rattle.g4_stacks.proofs.Growing.{keeps}
use Rattle.g4_stacks.proofs.Merging.{Grows-then}
use Rattle.g4_stacks.proofs.Shapes.{AreNodes, copy_canonical, copy_roots, loading_none, loading_lead, loading_plain, loading_more, loaded_means, loaded_known, places_in}
use Rattle.g4_stacks.proofs.graph.Graph.load.Goals as goal

pub loop-held-init : goal.loop-held-init
loop-held-init c = (
  ap length c.new-numbers.ensures.items,
  loading_none c.as_slice-held-items.result.now c.args.self.now c.new-numbers.result.items c.is_canonical.ensures
      c.new-numbers.ensures.items,
)

pub with_numbers-requires : goal.with_numbers-requires
with_numbers-requires c =
    let items = c.as_slice-held-items.result.now in
    let canon : IsCanonical items = subst IsCanonical (sym c.as_slice-held-items.ensures.value)
    (copy_canonical c.shape.inside.nodes.items c.shape.inside.roots.items c.shape.invariant) in
    let at : slice_get items c.loop-held.held-index ≡ Some c.held-item.result =
    slice_get_read items _ c.loop-held.held-index c.held-item.result refl c.loop-held-test.true c.held-item.is in
    subst (λ (ns : List ℕ). LeadBelow (length ns) c.held-item.result.tops) (sym c.as_slice.ensures.value)
    (loading_lead items canon c.args.self.now c.loop-held.self c.loop-held.numbers.items c.loop-held.invariant.1
    c.loop-held.held-index c.held-item.result at c.loop-held.invariant.0)

pub intern-requires : goal.intern-requires
intern-requires c =
    let items = c.as_slice-held-items.result.now in
    let canon : IsCanonical items = subst IsCanonical (sym c.as_slice-held-items.ensures.value)
    (copy_canonical c.shape.inside.nodes.items c.shape.inside.roots.items c.shape.invariant) in
    let at : slice_get items c.loop-held.held-index ≡ Some c.held-item.result =
    slice_get_read items _ c.loop-held.held-index c.held-item.result refl c.loop-held-test.true c.held-item.is in
    let same : c.in_ok-wanted.wanted ≡ with_tops c.held-item.result (renumbered c.loop-held.numbers.items c.held-item.result.tops) =
    subst (λ (ns : List ℕ). c.in_ok-wanted.wanted ≡ with_tops c.held-item.result (renumbered ns c.held-item.result.tops))
    c.as_slice.ensures.value c.in_ok-wanted.ensures in
    loading_plain items canon c.args.self.now c.loop-held.self c.loop-held.numbers.items c.loop-held.invariant.1
    c.loop-held.held-index c.held-item.result at c.loop-held.invariant.0 c.in_ok-wanted.wanted same

pub loop-held-preserved : goal.loop-held-preserved
loop-held-preserved c =
    let items = c.as_slice-held-items.result.now in
    let canon : IsCanonical items = subst IsCanonical (sym c.as_slice-held-items.ensures.value)
    (copy_canonical c.shape.inside.nodes.items c.shape.inside.roots.items c.shape.invariant) in
    let at : slice_get items c.loop-held.held-index ≡ Some c.held-item.result =
    slice_get_read items _ c.loop-held.held-index c.held-item.result refl c.loop-held-test.true c.held-item.is in
    let same : c.in_ok-wanted.wanted ≡ with_tops c.held-item.result (renumbered c.loop-held.numbers.items c.held-item.result.tops) =
    subst (λ (ns : List ℕ). c.in_ok-wanted.wanted ≡ with_tops c.held-item.result (renumbered ns c.held-item.result.tops))
    c.as_slice.ensures.value c.in_ok-wanted.ensures in
    loading_more items canon c.args.self.now c.loop-held.self c.loop-held.numbers.items c.loop-held.invariant.1 c.loop-held.held-index
    c.held-item.result at c.loop-held.invariant.0 c.in_ok-wanted.wanted same c.intern.new.self c.in_ok-node.node
    c.push.new.self.items c.in_ok-node.ensures.added c.in_ok-node.ensures.holds c.in_ok-push.ensures.items

pub returns-in_err-wanted-clause-keeps : goal.returns-in_err-wanted-clause-keeps
returns-in_err-wanted-clause-keeps c = keeps c.args.self.now c.loop-held.self c.is_canonical.ensures c.loop-held.invariant.1.grows

pub returns-in_err-node-clause-keeps : goal.returns-in_err-node-clause-keeps
returns-in_err-node-clause-keeps c = keeps c.args.self.now c.intern.new.self c.is_canonical.ensures
    (Grows-then _ _ _ c.loop-held.invariant.1.grows c.intern.ensures.grows)

pub returns-in_err-push-clause-keeps : goal.returns-in_err-push-clause-keeps
returns-in_err-push-clause-keeps c = keeps c.args.self.now c.intern.new.self c.is_canonical.ensures
    (Grows-then _ _ _ c.loop-held.invariant.1.grows c.intern.ensures.grows)

pub returns-in_err-nodes-clause-keeps : goal.returns-in_err-nodes-clause-keeps
returns-in_err-nodes-clause-keeps c = keeps c.args.self.now c.loop-held.self c.is_canonical.ensures c.loop-held.invariant.1.grows

pub numbers_at-requires : goal.numbers_at-requires
numbers_at-requires c =
    let items = c.as_slice-held-items.result.now in
    let canon : IsCanonical items = subst IsCanonical (sym c.as_slice-held-items.ensures.value)
    (copy_canonical c.shape.inside.nodes.items c.shape.inside.roots.items c.shape.invariant) in
    let roots : AreNodes items c.shape.inside.roots.items =
    subst (λ (g : List Content). AreNodes g c.shape.inside.roots.items) (sym c.as_slice-held-items.ensures.value)
    (copy_roots c.shape.inside.nodes.items c.shape.inside.roots.items c.shape.invariant) in
    let all : length c.loop-held.numbers.items ≡ length items = search rules in
    let places : All (λ place. place < length c.loop-held.numbers.items) c.shape.inside.roots.items =
    places_in items c.loop-held.numbers.items c.shape.inside.roots.items roots all in
    subst (λ (ns : List ℕ). All (λ place. place < length ns) c.as_slice-3.result.now) (sym c.as_slice-2.ensures.value)
    (subst (All (λ place. place < length c.loop-held.numbers.items)) (sym c.as_slice-3.ensures.value) places)

pub returns-clause-keeps : goal.returns-clause-keeps
returns-clause-keeps c = keeps c.args.self.now c.loop-held.self c.is_canonical.ensures c.loop-held.invariant.1.grows

pub returns-clause-known : goal.returns-clause-known
returns-clause-known c =
    let items = c.as_slice-held-items.result.now in
    let canon : IsCanonical items = subst IsCanonical (sym c.as_slice-held-items.ensures.value)
    (copy_canonical c.shape.inside.nodes.items c.shape.inside.roots.items c.shape.invariant) in
    let roots : AreNodes items c.shape.inside.roots.items =
    subst (λ (g : List Content). AreNodes g c.shape.inside.roots.items) (sym c.as_slice-held-items.ensures.value)
    (copy_roots c.shape.inside.nodes.items c.shape.inside.roots.items c.shape.invariant) in
    let all : length c.loop-held.numbers.items ≡ length items = search rules in
    let found : c.in_ok-nodes.nodes.items ≡ map (slice_index c.loop-held.numbers.items) c.shape.inside.roots.items = search rules in
    subst (All (IsNode c.loop-held.self)) (sym found)
    (loaded_known items canon c.args.self.now c.loop-held.self c.loop-held.numbers.items c.loop-held.invariant.1
    c.shape.inside.roots.items roots all)

pub returns-clause-means : goal.returns-clause-means
returns-clause-means c =
    let items = c.as_slice-held-items.result.now in
    let canon : IsCanonical items = subst IsCanonical (sym c.as_slice-held-items.ensures.value)
    (copy_canonical c.shape.inside.nodes.items c.shape.inside.roots.items c.shape.invariant) in
    let roots : AreNodes items c.shape.inside.roots.items =
    subst (λ (g : List Content). AreNodes g c.shape.inside.roots.items) (sym c.as_slice-held-items.ensures.value)
    (copy_roots c.shape.inside.nodes.items c.shape.inside.roots.items c.shape.invariant) in
    let all : length c.loop-held.numbers.items ≡ length items = search rules in
    let found : c.in_ok-nodes.nodes.items ≡ map (slice_index c.loop-held.numbers.items) c.shape.inside.roots.items = search rules in
    ap (map (stacks_of c.loop-held.self)) found
    ∙ (loaded_means items canon c.args.self.now c.loop-held.self c.loop-held.numbers.items c.loop-held.invariant.1
    c.shape.inside.roots.items roots all
    ∙ (ap (λ (g : List Content). map (stacks_of g) c.shape.inside.roots.items) c.as_slice-held-items.ensures.value ∙ c.shape.view_is))
