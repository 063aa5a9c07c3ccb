use Rattle.std.proofs.Common.{◌∷◌, [], length, ap, length-append, arith}
use Rattle.g4_vocab.proofs.Groups.{empty_more}
use Rattle.g4_vocab.proofs.by_type.empty_groups.Goals as goal

pub groups-preserved : goal.groups-preserved
groups-preserved c =
    let old = c.groups.groups.items in
    let long = length-append old (c.new.result ∷ []) in (
      omega (arith, ap length c.in_ok-push.ensures.items, long, c.groups.invariant.0),
      empty_more old c.push.new.self.items c.new.result c.in_ok-push.ensures.items c.new.ensures.items c.groups.invariant.1,
    )
