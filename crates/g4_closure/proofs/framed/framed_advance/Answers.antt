use Rattle.std.proofs.Common.{rules, ◌≡◌, List, sym, subst}
use Rattle.g4_net.specs.Configurations.{Config, IsWithin}
use Rattle.g4_net.specs.Lookahead.{Targets}
use Rattle.g4_configs.specs.declared.group.Group.{Group}
use Rattle.g4_configs.specs.Configs.{Holds}
use Rattle.g4_configs.specs.Groups.{AreKnown, InSome, Same}
use Rattle.g4_closure.specs.Steps.{targets_of}
use Rattle.g4_closure.proofs.Held.{framed_of}
use Rattle.g4_closure.proofs.Joining.{groups_known, known_kept}
use Rattle.g4_closure.proofs.Taking.{known_targets, taken_of, taken_within}
use Rattle.g4_closure.proofs.framed.framed_advance.Goals as goal

pub framed_rest-requires-clause-known : goal.framed_rest-requires-clause-known
framed_rest-requires-clause-known c =
    let is : c.as_slice-2.result.now ≡ targets_of c.args.net.now c.args.symbol c.in_ok-groups.groups.items = search rules in
    subst (AreKnown c.fresh.result.graph) (sym is)
    (known_kept c.args.set.graph c.fresh.result.graph _ c.fresh.ensures.keeps
    (known_targets c.args.net.now c.args.set.graph c.args.symbol c.in_ok-groups.groups.items
    (groups_known c.args.set _ c.in_ok-groups.ensures)))

pub framed_rest-requires-clause-within : goal.framed_rest-requires-clause-within
framed_rest-requires-clause-within c =
    let is : c.as_slice-2.result.now ≡ targets_of c.args.net.now c.args.symbol c.in_ok-groups.groups.items = search rules in
    subst (λ (xs : List Group). (d : Config) → InSome c.fresh.result.graph xs d → IsWithin c.args.net.now d) (sym is)
    (taken_within c.args.net.now c.args.set c.fresh.result c.args.symbol _ c.requires.well_formed c.fresh.ensures.keeps
    c.in_ok-groups.ensures c.requires.within)

pub returns-clause-members : goal.returns-clause-members
returns-clause-members c =
    let is : c.as_slice-2.result.now ≡ targets_of c.args.net.now c.args.symbol c.in_ok-groups.groups.items = search rules in
    framed_of c.args.net.now (InSome c.fresh.result.graph c.as_slice-2.result.now)
    (Targets c.args.net.now (Holds c.args.set) c.args.symbol) _
    (subst (λ (xs : List Group). Same (InSome c.fresh.result.graph xs) (Targets c.args.net.now (Holds c.args.set) c.args.symbol))
    (sym is) (taken_of c.args.net.now c.args.set c.fresh.result c.args.symbol _ c.fresh.ensures.keeps c.in_ok-groups.ensures))
    c.in_ok-found.ensures.members
