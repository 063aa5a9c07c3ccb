use Rattle.std.proofs.Common.{◌≡◌, subst}
use Rattle.g4_core.specs.declared.event.Phase.TheVariants.{Reading}
use Rattle.g4_core.specs.Steps.{Stands}
use Rattle.g4_core.proofs.Standing.{probe_found}
use Rattle.g4_core.proofs.machine.Core.probe.Goals as goal

pub returns-in_default : goal.returns-in_default
returns-in_default g c = λ d h. c.in_default.ensures (Reading h.0 h.1 h.2) h.4

pub returns-in_ok-path-in-Reading : goal.returns-in_ok-path-in-Reading
returns-in_ok-path-in-Reading g c =
    let is : c.in-Some.phase ≡ Reading c.in-Reading.file c.in-Reading.question c.in-Reading.place = cc in
    probe_found c.args.self.now c.args.worker c.in-Reading.file c.in-Reading.question c.in-Reading.place
    c.in_ok-path-in-Reading.path.now (subst (Stands c.args.self.now c.args.worker) is c.in-Some.ensures)
    c.in_ok-path-in-Reading.ensures c.read.result c.read.ensures
