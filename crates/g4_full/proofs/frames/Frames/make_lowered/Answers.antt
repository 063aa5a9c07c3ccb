use Rattle.std.proofs.Common.{rules, ◌≡◌, ◌∷◌, []}
use Rattle.g4_configs.specs.Configs.{Holds}
use Rattle.g4_full.specs.Remembered.{IsLowered}
use Rattle.g4_full.proofs.Making.{lowered_made, set_framed, set_within, still_same}
use Rattle.g4_full.proofs.Noting.{noted_more, noted_same, number_kept, row_kept}
use Rattle.g4_full.proofs.Placing.{lowers_framed}
use Rattle.g4_full.proofs.frames.Frames.make_lowered.Goals as goal

pub lower-requires-clause-within : goal.lower-requires-clause-within
lower-requires-clause-within c =
    set_within c.args.net.now c.args.self.now c.requires.sound c.args.from c.requires.number (Holds c.in_ok-set.set) c.in_ok-set.ensures

pub lower-requires-clause-bottomed : goal.lower-requires-clause-bottomed
lower-requires-clause-bottomed c =
    (set_framed c.args.net.now c.args.self.now c.requires.sound c.args.from c.requires.number (Holds c.in_ok-set.set)
    c.in_ok-set.ensures).bottomed

pub number_of-requires-clause-framed : goal.number_of-requires-clause-framed
number_of-requires-clause-framed c =
    let framed = set_framed c.args.net.now c.args.self.now c.requires.sound c.args.from c.requires.number (Holds c.in_ok-set.set)
    c.in_ok-set.ensures in
    lowers_framed c.args.net.now (Holds c.in_ok-set.set) (Holds c.in_ok-lowered.lowered) (c.args.state ∷ []) framed
    c.in_ok-lowered.ensures.members

pub returns : goal.returns
returns c =
    let old = c.args.self.now in
    let mid = c.number_of.new.self in
    let sound = c.in_ok-made.ensures.sound in
    let members = still_same old mid c.args.from (Holds c.in_ok-set.set)
    (row_kept old mid c.in_ok-made.ensures.keeps c.args.from c.requires.number) c.in_ok-set.ensures in
    record {
      sound = record {
        sets = sound.sets;
        starts = sound.starts;
        symbols = sound.symbols;
        returns = noted_more (IsLowered c.args.net.now mid) mid.returns.entries c.insert.new.self.entries c.args.from c.args.state
            c.in_ok-made.made.number sound.returns (
              number_kept old mid c.in_ok-made.ensures.keeps c.args.from c.requires.number,
              lowered_made c.args.net.now mid c.args.from (Holds c.in_ok-set.set) (Holds c.in_ok-lowered.lowered) members
                  (c.args.state ∷ []) c.in_ok-made.made.number c.in_ok-made.ensures.number c.in_ok-lowered.ensures.members,
            )
            c.in_ok-insert.ensures.updates.0;
      };
      live = c.in_ok-made.ensures.live;
    }

pub returns-in_err-insert : goal.returns-in_err-insert
returns-in_err-insert c =
    let mid = c.number_of.new.self in
    let sound = c.in_ok-made.ensures.sound in
    let same : c.insert.new.self.entries ≡ mid.returns.entries = search rules in
    record {
      sound = record {
        sets = sound.sets;
        starts = sound.starts;
        symbols = sound.symbols;
        returns = noted_same (IsLowered c.args.net.now mid) mid.returns.entries c.insert.new.self.entries same sound.returns;
      };
      live = search rules;
    }
