use Rattle.std.proofs.Common.{◌<◌, length, reverse}
use Rattle.g4_net.specs.Allowed.{Allows}
use Rattle.g4_net.specs.Configurations.{Stack}
use Rattle.g4_net.specs.Lookahead.{Firsts}
use Rattle.g4_configs.specs.Groups.{InSome}
use Rattle.g4_closure.proofs.Firsts.{firsts_exact, firsts_known, firsts_within}
use Rattle.g4_closure.proofs.Keeping.{rest_of}
use Rattle.g4_closure.proofs.Reversed.{all_reversed}
use Rattle.g4_closure.proofs.lookahead.start.Goals as goal

pub rest-requires-clause-known : goal.rest-requires-clause-known
rest-requires-clause-known c = rw c.as_slice.ensures.value
    (firsts_known c.bottom.new.self.graph (Allows c.args.allowed.now) c.in_ok-stacks.stacks c.alternatives.result.now _
    c.in_ok-firsts.firsts.items c.in_ok-stacks.ensures.known c.in_ok-firsts.ensures)

pub rest-requires-clause-within : goal.rest-requires-clause-within
rest-requires-clause-within c = rw c.as_slice.ensures.value (λ d i.
    let z : Stack = record { returns = reverse c.args.returns.now; wild = c.args.wild } in
    let f = (firsts_exact c.args.net.now c.args.decision (Allows c.args.allowed.now) z c.bottom.new.self.graph c.in_ok-stacks.stacks
    c.in_ok-stacks.ensures.means c.alternatives.result.now c.in_ok-firsts.firsts.items c.alternatives.ensures
    c.in_ok-firsts.ensures d).0 i in
    firsts_within c.args.net.now c.args.decision (Allows c.args.allowed.now) (reverse c.args.returns.now) c.args.wild
    c.requires.well_formed (all_reversed (λ t. t < length c.args.net.now.states) c.args.returns.now c.requires.within) d f)

pub returns-clause-members : goal.returns-clause-members
returns-clause-members c =
    let z : Stack = record { returns = reverse c.args.returns.now; wild = c.args.wild } in
    rest_of c.args.net.now (InSome c.bottom.new.self.graph c.in_ok-firsts.firsts.items)
    (Firsts c.args.net.now c.args.decision (Allows c.args.allowed.now) z) _
    (firsts_exact c.args.net.now c.args.decision (Allows c.args.allowed.now) z c.bottom.new.self.graph c.in_ok-stacks.stacks
    c.in_ok-stacks.ensures.means c.alternatives.result.now c.in_ok-firsts.firsts.items c.alternatives.ensures c.in_ok-firsts.ensures)
    (rw c.as_slice.ensures.value at c.in_ok-found.ensures.members)
