use Rattle.g4_net.specs.Lookahead.{Rest}
use Rattle.g4_configs.specs.Configs.{Holds}
use Rattle.g4_configs.specs.Groups.{InSome, Same}
use Rattle.g4_closure.proofs.Keeping.{kept_rest, rest_within}
use Rattle.g4_closure.proofs.RowOf.{rest_has_row}
use Rattle.g4_closure.proofs.lookahead.rest.Goals as goal

pub returns-clause-members : goal.returns-clause-members
returns-clause-members c = kept_rest c.args.net.now (InSome c.args.set.graph c.args.starts.now) c.reach.new.set c.keep.new.self
    c.in_ok-reach.ensures.members c.keep.ensures.members

pub returns-clause-within : goal.returns-clause-within
returns-clause-within c =
    let rest : Same (Holds c.keep.new.self) (Rest c.args.net.now (InSome c.args.set.graph c.args.starts.now)) =
    kept_rest c.args.net.now (InSome c.args.set.graph c.args.starts.now) c.reach.new.set c.keep.new.self
    c.in_ok-reach.ensures.members c.keep.ensures.members in
    rest_within c.args.net.now (InSome c.args.set.graph c.args.starts.now) c.keep.new.self c.requires.well_formed c.requires.within rest

pub returns-clause-row : goal.returns-clause-row
returns-clause-row c =
    let rest : Same (Holds c.keep.new.self) (Rest c.args.net.now (InSome c.args.set.graph c.args.starts.now)) =
    kept_rest c.args.net.now (InSome c.args.set.graph c.args.starts.now) c.reach.new.set c.keep.new.self
    c.in_ok-reach.ensures.members c.keep.ensures.members in
    rest_has_row c.args.net.now c.args.set.graph c.args.starts.now c.keep.new.self c.requires.well_formed c.is_canonical.ensures
    c.requires.within rest
