use Rattle.std.proofs.Common.{rules, ◌≡◌, ◌≤◌, inl, inr, List, length, take, sym, subst}
use Rattle.std.proofs.lemmas.List.{take_all}
use Rattle.g4_configs.specs.declared.group.Group.{Group}
use Rattle.g4_configs.specs.Configs.{AreGroups}
use Rattle.g4_configs.specs.Groups.{InSome}
use Rattle.g4_full.proofs.Lists.{groups_known, known_at, some_append, take_next}
use Rattle.g4_full.proofs.lowering.is_at_hole.Goals as goal

pub has_hole-requires : goal.has_hole-requires
has_hole-requires c =
    known_at c.args.set.now.graph c.as_slice-group-items.result.now c.loop-group.group-index _
    (groups_known c.args.set.now c.as_slice-group-items.result.now
    (subst (AreGroups c.args.set.now) (sym c.as_slice-group-items.ensures.value) c.in_ok-groups.ensures)) c.loop-group-test.true

pub loop-group-preserved : goal.loop-group-preserved
loop-group-preserved c = λ d i at.
    let j : InSome c.args.set.now.graph _ d = subst (λ (xs : List Group). InSome c.args.set.now.graph xs d)
    (take_next c.as_slice-group-items.result.now c.loop-group.group-index _ c.loop-group-test.true) i in
    elim ((some_append c.args.set.now.graph (take c.loop-group.group-index c.as_slice-group-items.result.now) _ d).0 j) [
      | inl old ↦ c.loop-group.invariant d old at
      | inr new ↦ elim new [ inl x ↦ c.has_hole.ensures c.if-has_hole.false d x at | inr none ↦ none ]
    ]

pub returns : goal.returns
returns c = λ is d i at.
    let past : length c.as_slice-group-items.result.now ≤ c.loop-group.group-index = search rules in
    let all : take c.loop-group.group-index c.as_slice-group-items.result.now ≡ c.as_slice-group-items.result.now =
    take_all c.loop-group.group-index c.as_slice-group-items.result.now past in
    let same : AreGroups c.args.set.now c.as_slice-group-items.result.now =
    subst (AreGroups c.args.set.now) (sym c.as_slice-group-items.ensures.value) c.in_ok-groups.ensures in
    c.loop-group.invariant d (subst (λ (xs : List Group). InSome c.args.set.now.graph xs d) (sym all) ((same.members d).1 i)) at
