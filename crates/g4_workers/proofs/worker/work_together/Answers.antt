use Rattle.std.proofs.Common.{◌∙◌, ℕ, ap, sym}
use Rattle.g4_workers.specs.declared.worker.Worker.{Worker}
use Rattle.g4_workers.proofs.Placed.{same_numbers}
use Rattle.g4_workers.proofs.worker.work_together.Goals as goal

abbrev number_of : {S O : Type 0} → Worker S O → ℕ
number_of w = w.number

pub returns-clause-numbers : goal.returns-clause-numbers
returns-clause-numbers g c =
    same_numbers c.args.workers.now c.for_each_mut.new.s c.for_each_mut.auto.s
    (λ i d less. let x = (c.for_each_mut.ensures i d less).1 in ap number_of (sym x.left) ∙ (x.call.1 ∙ ap number_of x.argument_is))
