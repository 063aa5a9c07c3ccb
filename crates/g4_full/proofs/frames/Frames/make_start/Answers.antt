use Rattle.std.proofs.Common.{rules, ◌≡◌}
use Rattle.g4_configs.specs.Configs.{Holds}
use Rattle.g4_frames.specs.Framed.{FramedStart}
use Rattle.g4_frames.proofs.Meaning.{same_then, start_framed}
use Rattle.g4_guards.specs.Levels.{AllowedAt}
use Rattle.g4_net.specs.Allowed.{Allows}
use Rattle.g4_full.specs.Remembered.{IsStart, SetOf}
use Rattle.g4_full.proofs.Making.{start_at}
use Rattle.g4_full.proofs.Noting.{noted_more, noted_same}
use Rattle.g4_full.proofs.Placing.{framed_same}
use Rattle.g4_full.proofs.frames.Frames.make_start.Goals as goal

pub number_of-requires-clause-framed : goal.number_of-requires-clause-framed
number_of-requires-clause-framed c = framed_same c.args.net.now (Holds c.in_ok-start.start)
    (FramedStart c.args.net.now c.args.decision (Allows c.in_ok-allowed.allowed)) c.in_ok-start.ensures.members
    (start_framed c.args.net.now c.args.decision (Allows c.in_ok-allowed.allowed))

pub returns : goal.returns
returns c =
    let mid = c.number_of.new.self in
    let sound = c.in_ok-made.ensures.sound in
    let number = c.in_ok-made.ensures.number in
    record {
      sound = record {
        sets = sound.sets;
        starts = noted_more (IsStart c.args.net.now mid) mid.starts.entries c.insert.new.self.entries c.args.decision c.args.condition
            c.in_ok-made.made.number sound.starts (
              number.0,
              same_then (SetOf mid c.in_ok-made.made.number) (Holds c.in_ok-start.start)
                  (FramedStart c.args.net.now c.args.decision (AllowedAt c.args.net.now c.args.decision c.args.condition)) number.1
                  (start_at c.args.net.now c.args.decision c.args.condition c.in_ok-allowed.allowed (Holds c.in_ok-start.start)
                  c.in_ok-allowed.ensures c.in_ok-start.ensures.members),
            )
            c.in_ok-insert.ensures.updates.0;
        symbols = sound.symbols;
        returns = sound.returns;
      };
      live = c.in_ok-made.ensures.live;
    }

pub returns-in_err-insert : goal.returns-in_err-insert
returns-in_err-insert c =
    let mid = c.number_of.new.self in
    let sound = c.in_ok-made.ensures.sound in
    let same : c.insert.new.self.entries ≡ mid.starts.entries = search rules in
    record {
      sound = record {
        sets = sound.sets;
        starts = noted_same (IsStart c.args.net.now mid) mid.starts.entries c.insert.new.self.entries same sound.starts;
        symbols = sound.symbols;
        returns = sound.returns;
      };
      live = search rules;
    }
