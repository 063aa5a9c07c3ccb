use Rattle.std.proofs.Common.{rules}
use Rattle.g4_configs.specs.Configs.{Holds}
use Rattle.g4_frames.specs.Framed.{Kept}
use Rattle.g4_full.proofs.Making.{clear_kept, same_shown}
use Rattle.g4_full.proofs.ask.ask.Goals as goal

pub returns-then-not-at_hole-clause-shown : goal.returns-then-not-at_hole-clause-shown
returns-then-not-at_hole-clause-shown c =
    same_shown (Holds c.args.set) (Kept c.args.net.now (Holds c.args.set))
    (clear_kept c.args.net.now (Holds c.args.set) c.requires.framed (c.in_ok-at_hole.ensures (search rules)))
    c.in_ok-shown.shown c.in_ok-shown.ensures

pub returns-clause-shown : goal.returns-clause-shown
returns-clause-shown c =
    same_shown (Holds c.keep.new.self) (Kept c.args.net.now (Holds c.args.set)) c.keep.ensures.members c.in_ok-shown-2.shown
    c.in_ok-shown-2.ensures
