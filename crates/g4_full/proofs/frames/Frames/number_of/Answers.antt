use Rattle.std.proofs.Common.{refl}
use Rattle.g4_configs.specs.Configs.{Holds}
use Rattle.g4_full.proofs.Making.{live_of, row_set}
use Rattle.g4_full.proofs.Noting.{keeps_same}
use Rattle.g4_full.proofs.frames.Frames.number_of.Goals as goal

pub returns-in-Some-clause-keeps : goal.returns-in-Some-clause-keeps
returns-in-Some-clause-keeps c = keeps_same c.args.self.now c.args.self.now refl

pub returns-in-Some-clause-number : goal.returns-in-Some-clause-number
returns-in-Some-clause-number c =
    row_set c.args.self.now c.in-Some.number c.in_ok-row.row (Holds c.args.set) c.in-Some.ensures c.in_ok-row.ensures

pub returns-in-Some-clause-live : goal.returns-in-Some-clause-live
returns-in-Some-clause-live c =
    row_set c.args.self.now c.in-Some.number c.in_ok-row.row (Holds c.args.set) c.in-Some.ensures c.in_ok-row.ensures

pub returns-clause-number : goal.returns-clause-number
returns-clause-number c =
    row_set c.add_set.new.self c.in_ok-live.live.number c.in_ok-row.row (Holds c.args.set) c.in_ok-live.ensures.number
    c.in_ok-row.ensures

pub returns-clause-live : goal.returns-clause-live
returns-clause-live c =
    live_of c.add_set.new.self c.in_ok-live.live (Holds c.args.set)
    (row_set c.add_set.new.self c.in_ok-live.live.number c.in_ok-row.row (Holds c.args.set) c.in_ok-live.ensures.number
    c.in_ok-row.ensures)
    c.in_ok-live.ensures.same
