use Rattle.std.proofs.Common.{◌<◌, List, length, reverse, sym, subst}
use Rattle.g4_configs.specs.declared.group.Group.{Group}
use Rattle.g4_configs.specs.Configs.{Holds}
use Rattle.g4_configs.specs.Groups.{AreKnown, InSome}
use Rattle.g4_net.specs.Configurations.{Config, IsWithin}
use Rattle.g4_closure.proofs.Held.{lowered_framed, lowered_within}
use Rattle.g4_closure.proofs.Reversed.{all_reversed}
use Rattle.g4_closure.proofs.framed.lower.Goals as goal

pub framed_rest-requires-clause-known : goal.framed_rest-requires-clause-known
framed_rest-requires-clause-known c = subst (AreKnown c.in_ok-lowered.lowered.set.graph) (sym c.as_slice.ensures.value)
    c.in_ok-lowered.ensures.known

pub framed_rest-requires-clause-within : goal.framed_rest-requires-clause-within
framed_rest-requires-clause-within c =
    subst (λ (xs : List Group). (d : Config) → InSome c.in_ok-lowered.lowered.set.graph xs d → IsWithin c.args.net.now d)
    (sym c.as_slice.ensures.value)
    (lowered_within (Holds c.args.set.now) (reverse c.args.states.now) c.args.net.now c.in_ok-lowered.lowered.set.graph
    c.in_ok-lowered.lowered.groups.items (all_reversed (λ t. t < length c.args.net.now.states) c.args.states.now
    c.requires.states) c.requires.within c.in_ok-lowered.ensures.means)

pub returns-clause-members : goal.returns-clause-members
returns-clause-members c =
    lowered_framed (Holds c.args.set.now) (reverse c.args.states.now) c.args.net.now c.in_ok-lowered.lowered.set.graph
    c.in_ok-lowered.lowered.groups.items (Holds c.in_ok-found.found) c.requires.bottomed c.in_ok-lowered.ensures.means
    (rw c.as_slice.ensures.value at c.in_ok-found.ensures.members)
