use Rattle.g4_leftrec.proofs.Levels.{put_last}
use Rattle.g4_leftrec.proofs.kinds.with_last_at.Goals as goal

pub returns-in-Some : goal.returns-in-Some
returns-in-Some c =
    put_last c.args.rule c.args.level c.args.elements.items c.as_slice.result.now c.in-Some.place c.as_slice.ensures.value
    c.in-Some.ensures.within c.in-Some.ensures.last
