use Rattle.std.proofs.Common.{◌≡◌, ◌∙◌, ◌<◌, ◌↔◌, ℕ, AllPairs, IsTrue, List, ap, length, map, subst, sym}
use Rattle.g4_stacks.specs.Canonical.{IsCanonical}
use Rattle.g4_configs.specs.declared.group.Group.{Group}
use Rattle.g4_configs.specs.Configs.{View}
use Rattle.g4_configs.specs.Groups.{AreNodes, ComesBefore, group_of}
use Rattle.g4_configs.specs.Verdicts.{IsLone}
use Rattle.g4_configs.proofs.Comparing.{lone_verdict}
use Rattle.g4_configs.proofs.Snapshots.{groups_sorted}
use Rattle.g4_configs.proofs.configs.Configs.lone_state.Goals as goal

pub has_lone-answer-requires : goal.has_lone-answer-requires
has_lone-answer-requires c =
    let is : c.in_ok-groups.groups.items ≡ map group_of c.in_ok-entries.entries.items =
    c.in_ok-groups.ensures ∙ ap (map group_of) c.deref.ensures.value in
    let here = groups_sorted c.self.inside.graph c.is_canonical.ensures c.self.inside.nodes.entries c.in_ok-entries.entries.items
    c.self.invariant c.in_ok-entries.ensures.unique c.in_ok-entries.ensures.permutation c.in_ok-entries.ensures.sorted c.args.self.now
    c.in_ok-groups.groups.items c.self.view_is is in
    subst (AllPairs ComesBefore) (sym c.deref-2.ensures.value) here.1

pub returns : goal.returns
returns c =
    let is : c.in_ok-groups.groups.items ≡ map group_of c.in_ok-entries.entries.items =
    c.in_ok-groups.ensures ∙ ap (map group_of) c.deref.ensures.value in
    let here = groups_sorted c.self.inside.graph c.is_canonical.ensures c.self.inside.nodes.entries c.in_ok-entries.entries.items
    c.self.invariant c.in_ok-entries.ensures.unique c.in_ok-entries.ensures.permutation c.in_ok-entries.ensures.sorted c.args.self.now
    c.in_ok-groups.groups.items c.self.view_is is in
    let canon = subst (λ (v : View). IsCanonical v.graph) c.self.view_is c.is_canonical.ensures in
    let nodes = subst (λ (v : View). AreNodes v.graph v.nodes) c.self.view_is c.self.invariant in
    let answer = subst (λ (xs : List Group). IsTrue c.has_lone-answer.result ↔ ((i : ℕ) × (i < length xs) × IsLone xs i))
    c.deref-2.ensures.value c.has_lone-answer.ensures in
    lone_verdict c.args.self.now canon nodes c.in_ok-groups.groups.items c.has_lone-answer.result here.0 answer
