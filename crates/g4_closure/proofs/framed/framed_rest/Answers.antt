use Rattle.std.proofs.Common.{List, sym, subst}
use Rattle.g4_frames.specs.Framed.{Framed}
use Rattle.g4_configs.specs.declared.group.Group.{Group}
use Rattle.g4_configs.specs.Configs.{Holds}
use Rattle.g4_configs.specs.Groups.{AreKnown, InSome, Same}
use Rattle.g4_closure.specs.Framing.{AreHeld}
use Rattle.g4_closure.proofs.Held.{framed_has_row, framed_held, framed_within}
use Rattle.g4_closure.proofs.Joining.{groups_known, known_kept}
use Rattle.g4_closure.proofs.framed.framed_rest.Goals as goal

pub held_groups-requires-clause-known : goal.held_groups-requires-clause-known
held_groups-requires-clause-known c = subst (AreKnown c.bottom.new.self.graph) (sym c.as_slice.ensures.value)
    (groups_known c.bottom.new.self c.in_ok-groups.groups.items c.in_ok-groups.ensures)

pub add_all-requires-clause-known : goal.add_all-requires-clause-known
add_all-requires-clause-known c = subst (AreKnown c.fresh-found.result.graph) (sym c.as_slice-2.ensures.value)
    (known_kept c.bottom.new.self.graph c.fresh-found.result.graph c.in_ok-held.held.items c.fresh-found.ensures.keeps
    c.in_ok-held.ensures.known)

pub returns-clause-members : goal.returns-clause-members
returns-clause-members c =
    framed_held c.args.net.now (InSome c.args.set.graph c.args.starts.now) c.reach.new.set c.bottom.new.self c.fresh-found.result
    c.add_all.new.set c.in_ok-groups.groups.items c.as_slice-2.result.now c.in_ok-reach.ensures.members
    c.in_ok-bottom.ensures.same c.in_ok-groups.ensures
    (subst (AreHeld c.args.net.now c.bottom.new.self c.in_ok-groups.groups.items) (sym c.as_slice-2.ensures.value)
    (subst (λ (xs : List Group). AreHeld c.args.net.now c.bottom.new.self xs c.in_ok-held.held.items) c.as_slice.ensures.value
    c.in_ok-held.ensures))
    c.fresh-found.ensures.keeps c.fresh-found.ensures.empty c.in_ok-add_all.ensures.members

pub returns-clause-within : goal.returns-clause-within
returns-clause-within c =
    let members : Same (Holds c.add_all.new.set) (Framed c.args.net.now (InSome c.args.set.graph c.args.starts.now)) =
    framed_held c.args.net.now (InSome c.args.set.graph c.args.starts.now) c.reach.new.set c.bottom.new.self c.fresh-found.result
    c.add_all.new.set c.in_ok-groups.groups.items c.as_slice-2.result.now c.in_ok-reach.ensures.members
    c.in_ok-bottom.ensures.same c.in_ok-groups.ensures
    (subst (AreHeld c.args.net.now c.bottom.new.self c.in_ok-groups.groups.items) (sym c.as_slice-2.ensures.value)
    (subst (λ (xs : List Group). AreHeld c.args.net.now c.bottom.new.self xs c.in_ok-held.held.items) c.as_slice.ensures.value
    c.in_ok-held.ensures))
    c.fresh-found.ensures.keeps c.fresh-found.ensures.empty c.in_ok-add_all.ensures.members in
    framed_within c.args.net.now (InSome c.args.set.graph c.args.starts.now) c.add_all.new.set c.requires.well_formed
    c.requires.within members

pub returns-clause-row : goal.returns-clause-row
returns-clause-row c =
    let members : Same (Holds c.add_all.new.set) (Framed c.args.net.now (InSome c.args.set.graph c.args.starts.now)) =
    framed_held c.args.net.now (InSome c.args.set.graph c.args.starts.now) c.reach.new.set c.bottom.new.self c.fresh-found.result
    c.add_all.new.set c.in_ok-groups.groups.items c.as_slice-2.result.now c.in_ok-reach.ensures.members
    c.in_ok-bottom.ensures.same c.in_ok-groups.ensures
    (subst (AreHeld c.args.net.now c.bottom.new.self c.in_ok-groups.groups.items) (sym c.as_slice-2.ensures.value)
    (subst (λ (xs : List Group). AreHeld c.args.net.now c.bottom.new.self xs c.in_ok-held.held.items) c.as_slice.ensures.value
    c.in_ok-held.ensures))
    c.fresh-found.ensures.keeps c.fresh-found.ensures.empty c.in_ok-add_all.ensures.members in
    framed_has_row c.args.net.now c.args.set.graph c.args.starts.now c.add_all.new.set c.requires.well_formed c.is_canonical.ensures
    c.requires.within members
