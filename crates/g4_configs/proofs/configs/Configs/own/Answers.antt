use Rattle.std.proofs.Common.{rules, ◌≡◌, ◌∙◌, All, List, map, ap, sym, subst}
use Rattle.g4_stacks.specs.Graph.{Content, IsNode}
use Rattle.g4_configs.specs.declared.group.Group.{Group}
use Rattle.g4_configs.specs.Configs.{AreGroups, View}
use Rattle.g4_configs.specs.Groups.{AreKnown, InSome}
use Rattle.g4_configs.proofs.Imaged.{as_many, groups_known, own_alike, roots_known, with_known, with_means}
use Rattle.g4_configs.proofs.configs.Configs.own.Goals as goal

pub part-requires : goal.part-requires
part-requires c =
    let are : c.as_slice-2.result.now ≡ map (λ (x : Group). x.stacks) c.in_ok-groups.groups.items = search rules in
    subst (λ (g : List Content). All (IsNode g) c.as_slice-2.result.now) (sym (ap (λ (v : View). v.graph) c.self.view_is))
    (subst (All (IsNode c.args.self.now.graph)) (sym are)
    (roots_known c.args.self.now.graph c.in_ok-groups.groups.items
    (groups_known c.args.self.now c.in_ok-groups.groups.items c.in_ok-groups.ensures)))

pub with_nodes-requires : goal.with_nodes-requires
with_nodes-requires c =
    let are : c.as_slice-2.result.now ≡ map (λ (x : Group). x.stacks) c.as_slice-3.result.now =
    c.as_slice-2.ensures.value ∙ (c.in_ok-roots.ensures
    ∙ ap (map (λ (x : Group). x.stacks)) (c.as_slice.ensures.value ∙ sym c.as_slice-3.ensures.value)) in
    as_many c.args.self.now.graph c.in_ok-part.part.graph c.as_slice-3.result.now c.as_slice-4.result.now
    (own_alike c.self.inside.graph c.args.self.now.graph c.in_ok-part.part.graph c.as_slice-2.result.now c.in_ok-part.part.nodes.items
    c.as_slice-4.result.now c.as_slice-3.result.now (ap (λ (v : View). v.graph) c.self.view_is) are c.as_slice-4.ensures.value
    c.in_ok-part.ensures)

pub returns-clause-known : goal.returns-clause-known
returns-clause-known c =
    let are : c.as_slice-2.result.now ≡ map (λ (x : Group). x.stacks) c.as_slice-3.result.now =
    c.as_slice-2.ensures.value ∙ (c.in_ok-roots.ensures
    ∙ ap (map (λ (x : Group). x.stacks)) (c.as_slice.ensures.value ∙ sym c.as_slice-3.ensures.value)) in
    subst (AreKnown c.in_ok-part.part.graph) (sym c.in_ok-own.ensures)
    (with_known c.args.self.now.graph c.in_ok-part.part.graph c.as_slice-3.result.now c.as_slice-4.result.now
    (own_alike c.self.inside.graph c.args.self.now.graph c.in_ok-part.part.graph c.as_slice-2.result.now c.in_ok-part.part.nodes.items
    c.as_slice-4.result.now c.as_slice-3.result.now (ap (λ (v : View). v.graph) c.self.view_is) are c.as_slice-4.ensures.value
    c.in_ok-part.ensures))

pub returns-clause-means : goal.returns-clause-means
returns-clause-means c =
    let are : c.as_slice-2.result.now ≡ map (λ (x : Group). x.stacks) c.as_slice-3.result.now =
    c.as_slice-2.ensures.value ∙ (c.in_ok-roots.ensures
    ∙ ap (map (λ (x : Group). x.stacks)) (c.as_slice.ensures.value ∙ sym c.as_slice-3.ensures.value)) in
    let groups : AreGroups c.args.self.now c.as_slice-3.result.now =
    subst (AreGroups c.args.self.now) (sym c.as_slice-3.ensures.value) c.in_ok-groups.ensures in
    let alike = own_alike c.self.inside.graph c.args.self.now.graph c.in_ok-part.part.graph c.as_slice-2.result.now
    c.in_ok-part.part.nodes.items c.as_slice-4.result.now c.as_slice-3.result.now (ap (λ (v : View). v.graph) c.self.view_is) are
    c.as_slice-4.ensures.value c.in_ok-part.ensures in
    λ d.
    let means = with_means c.args.self.now.graph c.in_ok-part.part.graph c.as_slice-3.result.now c.as_slice-4.result.now alike d in (
      (λ i. (groups.members d).0 (means.0 (subst (λ (xs : List Group). InSome c.in_ok-part.part.graph xs d) c.in_ok-own.ensures i))),
      (λ h. subst (λ (xs : List Group). InSome c.in_ok-part.part.graph xs d) (sym c.in_ok-own.ensures) (means.1 ((groups.members d).1 h))),
    )
