use Rattle.std.proofs.Common.{◌≡◌, ◌↔◌, ◌⊎◌, ◌∙◌, ℕ, All, List, length, map, ap, sym, subst, arith}
use Rattle.std.proofs.lemmas.List.{length-map}
use Rattle.g4_net.specs.Configurations.{Config}
use Rattle.g4_stacks.specs.Graph.{IsNode}
use Rattle.g4_stacks.specs.Listing.{stacks_of}
use Rattle.g4_configs.specs.declared.group.Group.{Group}
use Rattle.g4_configs.specs.Groups.{AreKnown, InSome, Within}
use Rattle.g4_configs.specs.Rows.{groups_of}
use Rattle.g4_configs.proofs.Loading.{as_many, known, loaded}
use Rattle.g4_configs.proofs.snapshot.Snapshot.load.Goals as goal

pub grouped-requires : goal.grouped-requires
grouped-requires c =
    let keys = ap length c.deref.ensures.value in
    let nodes = ap length c.as_slice.ensures.value in
    let many = as_many c.self.inside.keys.items c.self.inside.stacks c.self.invariant in
    let are : length (map (stacks_of c.load.new.self) c.in_ok-stacks.stacks.items) ≡ length c.self.inside.stacks =
    ap length c.in_ok-stacks.ensures.means in
    let long = length-map c.in_ok-stacks.stacks.items (stacks_of c.load.new.self) in
    omega (arith, keys, nodes, many, are, long)

pub add_each-requires-clause-known : goal.add_each-requires-clause-known
add_each-requires-clause-known c =
    subst (AreKnown c.load.new.self) (sym (c.as_slice-2.ensures.value ∙ c.in_ok-groups.ensures))
    (known c.load.new.self c.deref.result.now c.as_slice.result.now
    (subst (All (IsNode c.load.new.self)) (sym c.as_slice.ensures.value) c.in_ok-stacks.ensures.known))

pub returns : goal.returns
returns c =
    let groups : c.as_slice-2.result.now ≡ groups_of c.self.inside.keys.items c.in_ok-stacks.stacks.items =
    c.as_slice-2.ensures.value ∙ (c.in_ok-groups.ensures
    ∙ (ap (λ (qs : List (ℕ × ℕ)). groups_of qs c.as_slice.result.now) c.deref.ensures.value
    ∙ ap (groups_of c.self.inside.keys.items) c.as_slice.ensures.value)) in
    loaded c.load.new.self c.is_canonical.ensures c.self.inside.keys.items c.in_ok-stacks.stacks.items c.self.inside.stacks
    c.args.self.now (record { graph = c.add_each.new.graph; nodes = c.add_each.new.nodes.entries }) c.in_ok-nodes.nodes.entries
    c.in_ok-nodes.ensures.empty c.in_ok-stacks.ensures.means c.self.invariant c.self.view_is
    (subst (λ (xs : List Group). (d : Config) → Within c.add_each.new.graph c.add_each.new.nodes.entries d
    ↔ (Within c.load.new.self c.in_ok-nodes.nodes.entries d ⊎ InSome c.load.new.self xs d)) groups c.in_ok-add_each.ensures.members)
