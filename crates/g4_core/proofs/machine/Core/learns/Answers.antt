use Rattle.std.proofs.Common.{◌≡◌, subst}
use Rattle.g4_core.specs.declared.event.Phase.TheVariants.{Learning}
use Rattle.g4_core.specs.Steps.{Stands}
use Rattle.g4_core.proofs.machine.Core.learns.Goals as goal

pub returns-in_default : goal.returns-in_default
returns-in_default g c = λ file question begun stands wait. c.in_default.ensures (Learning file question begun) stands

pub returns-then-others_wait : goal.returns-then-others_wait
returns-then-others_wait g c =
    let is : c.in-Some.phase ≡ Learning c.in-Learning.file c.in-Learning.question c.in-Learning.field-2 = cc in (
      c.others_wait.ensures.0 c.if-others_wait.true,
      c.in-Learning.field-2,
      subst (Stands c.args.self.now c.args.worker) is c.in-Some.ensures,
    )
