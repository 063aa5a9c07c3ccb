use Rattle.std.proofs.Common.{◌∙◌, ap, refl, subst, sym}
use Rattle.g4_configs.specs.Configs.{Holds}
use Rattle.g4_full.specs.declared.frames.Frame.{Frame}
use Rattle.g4_full.specs.Remembered.{IsNumber, row_of}
use Rattle.g4_full.proofs.Making.{right_of}
use Rattle.g4_full.proofs.Noting.{keeps_more, keeps_same, number_new, row_new, sound_more, sound_same}
use Rattle.g4_full.proofs.frames.Frames.add_set.Goals as goal

pub returns-in_err-asked-clause-keeps : goal.returns-in_err-asked-clause-keeps
returns-in_err-asked-clause-keeps c = keeps_same c.args.self.now c.args.self.now refl

pub returns-in_err-number-clause-sound : goal.returns-in_err-number-clause-sound
returns-in_err-number-clause-sound c = sound_same c.args.net.now c.args.self.now c.add.new.self c.in_err-number.ensures.unchanged
    c.add.ensures.tables c.requires.sound

pub returns-in_err-number-clause-keeps : goal.returns-in_err-number-clause-keeps
returns-in_err-number-clause-keeps c = keeps_same c.args.self.now c.add.new.self c.in_err-number.ensures.unchanged

pub returns-clause-sound : goal.returns-clause-sound
returns-clause-sound c =
    let e : Frame =
    record {
      set = c.args.row;
      at_hole = c.in_ok-asked.asked.at_hole;
      shown = c.in_ok-asked.asked.shown;
      depth = c.args.depth;
      groups = c.count-groups.result;
      earlier = c.newest_with-earlier.result;
    } in
    sound_more c.args.self.now c.add.new.self e c.in_ok-number.ensures.added.1 c.args.net.now c.add.ensures.tables c.requires.sound
    (right_of c.args.net.now e (Holds c.args.set) c.requires.row c.requires.framed c.requires.within c.in_ok-asked.ensures.clear
    c.in_ok-asked.ensures.shown)

pub returns-clause-keeps : goal.returns-clause-keeps
returns-clause-keeps c = keeps_more c.args.self.now c.add.new.self (record {
  set = c.args.row;
  at_hole = c.in_ok-asked.asked.at_hole;
  shown = c.in_ok-asked.asked.shown;
  depth = c.args.depth;
  groups = c.count-groups.result;
  earlier = c.newest_with-earlier.result;
}) c.in_ok-number.ensures.added.1

pub returns-clause-number : goal.returns-clause-number
returns-clause-number c =
    let added = c.in_ok-number.ensures.added in (
      subst (IsNumber c.add.new.self) (sym added.0) (number_new c.args.self.now c.add.new.self (record {
        set = c.args.row;
        at_hole = c.in_ok-asked.asked.at_hole;
        shown = c.in_ok-asked.asked.shown;
        depth = c.args.depth;
        groups = c.count-groups.result;
        earlier = c.newest_with-earlier.result;
      }) added.1),
      ap (row_of c.add.new.self) added.0 ∙ row_new c.args.self.now c.add.new.self (record {
        set = c.args.row;
        at_hole = c.in_ok-asked.asked.at_hole;
        shown = c.in_ok-asked.asked.shown;
        depth = c.args.depth;
        groups = c.count-groups.result;
        earlier = c.newest_with-earlier.result;
      }) added.1,
    )
