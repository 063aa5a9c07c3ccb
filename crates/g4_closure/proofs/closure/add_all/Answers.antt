use Rattle.std.proofs.Common.{rules, refl, sym, ◌∙◌, ◌≡◌, ◌<◌, true, false, true≢false, length, get_or}
use Rattle.g4_configs.specs.declared.group.Group.{Group}
use Rattle.g4_closure.proofs.Joining.{known_at, take_next, joined_as, joined_same, joined_more}
use Rattle.g4_closure.proofs.closure.add_all.Goals as goal

pub add-requires : goal.add-requires
add-requires c =
    let lt : c.loop-group.group-index < length c.args.groups.now = search rules in
    (c.loop-group.invariant.keeps _ (known_at c.args.set.now.graph c.args.groups.now c.loop-group.group-index
    (record { state = 0; alternative = 0; stacks = 0 }) c.requires.known lt)).0

pub loop-group-preserved-then-not-branch : goal.loop-group-preserved-then-not-branch
loop-group-preserved-then-not-branch c =
    let lt : c.loop-group.group-index < length c.args.groups.now = search rules in
    let x : Group = get_or c.args.groups.now c.loop-group.group-index (record { state = 0; alternative = 0; stacks = 0 }) in
    let same : c.in_ok-add.field-0 ≡ false = search rules in
    joined_as c.args.set.now c.add.new.self c.args.work.now.items c.loop-group.work.items c.loop-group.work.items _ _
    (take_next c.args.groups.now c.loop-group.group-index (record { state = 0; alternative = 0; stacks = 0 }) lt) refl
    (joined_same c.args.set.now c.loop-group.set c.add.new.self c.args.work.now.items c.loop-group.work.items _ x
    c.loop-group.invariant c.add.ensures.keeps c.in_ok-add.ensures.members
    (known_at c.args.set.now.graph c.args.groups.now c.loop-group.group-index (record { state = 0; alternative = 0; stacks = 0 })
    c.requires.known lt) (c.in_ok-add.ensures.grew.0 same))

pub loop-group-preserved : goal.loop-group-preserved
loop-group-preserved c =
    let lt : c.loop-group.group-index < length c.args.groups.now = search rules in
    let x : Group = get_or c.args.groups.now c.loop-group.group-index (record { state = 0; alternative = 0; stacks = 0 }) in
    let grew : c.in_ok-add.field-0 ≡ true = search rules in
    joined_as c.args.set.now c.add.new.self c.args.work.now.items _ c.push.new.self.items _ _
    (take_next c.args.groups.now c.loop-group.group-index (record { state = 0; alternative = 0; stacks = 0 }) lt)
    c.in_ok-push.ensures.items
    (joined_more c.args.set.now c.loop-group.set c.add.new.self c.args.work.now.items c.loop-group.work.items _ x
    c.loop-group.invariant c.add.ensures.keeps c.in_ok-add.ensures.members
    (known_at c.args.set.now.graph c.args.groups.now c.loop-group.group-index (record { state = 0; alternative = 0; stacks = 0 })
    c.requires.known lt) (λ sub. true≢false (sym grew ∙ c.in_ok-add.ensures.grew.1 sub)))
