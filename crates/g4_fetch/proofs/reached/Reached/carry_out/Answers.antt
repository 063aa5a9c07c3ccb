use Rattle.std.proofs.Common.{ap}
use Rattle.g4_fetch.proofs.Continuing.{noted_task}
use Rattle.g4_fetch.specs.declared.closure.WithImports.{WithImports}
use Rattle.g4_fetch.proofs.reached.Reached.carry_out.Goals as goal

pub returns-in_ok-add_import-in-Test : goal.returns-in_ok-add_import-in-Test
returns-in_ok-add_import-in-Test c = (
  ap (λ (g : WithImports). g.files) c.in_ok-add_import-in-Test.ensures,
  λ files rest r h.
      noted_task files c.args.prefix.now c.args.self.now c.add_import.new.self c.in-Test.import c.args.task c.in-Test.is
      c.in_ok-add_import-in-Test.ensures rest r h,
)
