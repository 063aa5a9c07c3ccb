use Rattle.std.proofs.Common.{length, ◌/◌}
use Rattle.std.proofs.lemmas.List.{take-append-drop}
use Rattle.g4_productions.proofs.SetText.{halves_joined}
use Rattle.g4_productions.proofs.excluded.+joined.Goals as goal

pub returns-in_ok-set-in_default : goal.returns-in_ok-set-in_default
returns-in_ok-set-in_default t c =
    halves_joined c.split_at.result.0.now c.split_at.result.1.now c.args.ranges.now c.in_ok-front-in_default.front
    c.in_ok-after-in_default.after c.in_ok-set-in_default.set
    (rw (c.split_at.ensures.front, c.split_at.ensures.back) (take-append-drop (length c.args.ranges.now / 2) c.args.ranges.now))
    c.in_ok-front-in_default.ensures c.in_ok-after-in_default.ensures c.in_ok-set-in_default.ensures
