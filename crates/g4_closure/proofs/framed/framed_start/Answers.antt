use Rattle.std.proofs.Common.{[], ◌<◌, false, length}
use Rattle.std.proofs.lemmas.List.Elements.{All-nil}
use Rattle.g4_net.specs.Allowed.{Allows}
use Rattle.g4_net.specs.Configurations.{above_bottom}
use Rattle.g4_net.specs.Lookahead.{Firsts}
use Rattle.g4_configs.specs.Groups.{InSome}
use Rattle.g4_closure.proofs.Firsts.{firsts_exact, firsts_known, firsts_within}
use Rattle.g4_closure.proofs.Held.{framed_of}
use Rattle.g4_closure.proofs.framed.framed_start.Goals as goal

pub framed_rest-requires-clause-known : goal.framed_rest-requires-clause-known
framed_rest-requires-clause-known c = rw c.as_slice.ensures.value
    (firsts_known c.bottom.new.self.graph (Allows c.args.allowed.now) c.in_ok-stacks.stacks c.alternatives.result.now _
    c.in_ok-firsts.firsts.items c.in_ok-stacks.ensures.known c.in_ok-firsts.ensures)

pub framed_rest-requires-clause-within : goal.framed_rest-requires-clause-within
framed_rest-requires-clause-within c = rw c.as_slice.ensures.value (λ d i.
    let f = (firsts_exact c.args.net.now c.args.decision (Allows c.args.allowed.now) (above_bottom []) c.bottom.new.self.graph
    c.in_ok-stacks.stacks c.in_ok-stacks.ensures.means c.alternatives.result.now c.in_ok-firsts.firsts.items
    c.alternatives.ensures c.in_ok-firsts.ensures d).0 i in
    firsts_within c.args.net.now c.args.decision (Allows c.args.allowed.now) [] false c.requires.well_formed
    (All-nil (λ t. t < length c.args.net.now.states)) d f)

pub returns-clause-members : goal.returns-clause-members
returns-clause-members c =
    framed_of c.args.net.now (InSome c.bottom.new.self.graph c.in_ok-firsts.firsts.items)
    (Firsts c.args.net.now c.args.decision (Allows c.args.allowed.now) (above_bottom [])) _
    (firsts_exact c.args.net.now c.args.decision (Allows c.args.allowed.now) (above_bottom []) c.bottom.new.self.graph
    c.in_ok-stacks.stacks c.in_ok-stacks.ensures.means c.alternatives.result.now c.in_ok-firsts.firsts.items
    c.alternatives.ensures c.in_ok-firsts.ensures)
    (rw c.as_slice.ensures.value at c.in_ok-found.ensures.members)
