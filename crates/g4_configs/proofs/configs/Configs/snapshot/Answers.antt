use Rattle.std.proofs.Common.{◌≡◌, ◌∙◌, All, List, map, ap, sym, subst}
use Rattle.std.specs.Map.{keys_of, values_of}
use Rattle.g4_net.specs.Configurations.{Stack}
use Rattle.g4_stacks.specs.Graph.{IsNode}
use Rattle.g4_stacks.specs.Listing.{stacks_of}
use Rattle.g4_configs.proofs.Snapshots.{parted, row_is, values_known}
use Rattle.g4_configs.proofs.configs.Configs.snapshot.Goals as goal

pub canon-requires : goal.canon-requires
canon-requires c =
    let is : c.in_ok-nodes.nodes.items ≡ values_of c.in_ok-entries.entries.items =
    c.in_ok-nodes.ensures ∙ ap values_of c.deref-2.ensures.value in
    subst (All (IsNode c.self.inside.graph)) (sym (c.deref-3.ensures.value ∙ is))
    (values_known c.self.inside.graph c.is_canonical.ensures c.self.inside.nodes.entries c.in_ok-entries.entries.items c.self.invariant
    c.in_ok-entries.ensures.unique c.in_ok-entries.ensures.permutation c.in_ok-entries.ensures.sorted)

pub invariant_of-result : goal.invariant_of-result
invariant_of-result c =
    let is : c.in_ok-nodes.nodes.items ≡ values_of c.in_ok-entries.entries.items =
    c.in_ok-nodes.ensures ∙ ap values_of c.deref-2.ensures.value in
    let listed : c.in_ok-keys.keys.items ≡ keys_of c.in_ok-entries.entries.items =
    c.in_ok-keys.ensures ∙ ap keys_of c.deref.ensures.value in
    let lists : Path (List (List Stack)) c.in_ok-stacks.stacks
    (map (stacks_of c.self.inside.graph) (values_of c.in_ok-entries.entries.items)) =
    c.in_ok-stacks.ensures ∙ ap (map (stacks_of c.self.inside.graph)) (c.deref-3.ensures.value ∙ is) in
    parted c.self.inside.graph c.is_canonical.ensures c.self.inside.nodes.entries c.in_ok-entries.entries.items c.self.invariant
    c.in_ok-entries.ensures.unique c.in_ok-entries.ensures.permutation c.in_ok-entries.ensures.sorted
    c.in_ok-keys.keys.items c.in_ok-stacks.stacks listed lists

pub returns : goal.returns
returns c =
    let is : c.in_ok-nodes.nodes.items ≡ values_of c.in_ok-entries.entries.items =
    c.in_ok-nodes.ensures ∙ ap values_of c.deref-2.ensures.value in
    let listed : c.in_ok-keys.keys.items ≡ keys_of c.in_ok-entries.entries.items =
    c.in_ok-keys.ensures ∙ ap keys_of c.deref.ensures.value in
    let lists : Path (List (List Stack)) c.in_ok-stacks.stacks
    (map (stacks_of c.self.inside.graph) (values_of c.in_ok-entries.entries.items)) =
    c.in_ok-stacks.ensures ∙ ap (map (stacks_of c.self.inside.graph)) (c.deref-3.ensures.value ∙ is) in
    row_is c.self.inside.graph c.is_canonical.ensures c.self.inside.nodes.entries c.in_ok-entries.entries.items c.self.invariant
    c.in_ok-entries.ensures.unique c.in_ok-entries.ensures.permutation c.in_ok-entries.ensures.sorted c.args.self.now
    c.in_ok-keys.keys.items c.in_ok-stacks.stacks c.self.view_is listed lists
