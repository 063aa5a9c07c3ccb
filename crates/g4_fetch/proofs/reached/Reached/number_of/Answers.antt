use Rattle.std.proofs.Common.{ap, ◌∙◌}
use Rattle.g4_fetch.specs.Closures.{number_of}
use Rattle.g4_fetch.specs.declared.closure.WithImports.{WithImports}
use Rattle.g4_fetch.proofs.reached.Reached.number_of.Goals as goal

pub returns : goal.returns
returns c = c.copied.ensures ∙ (c.get.ensures ∙ (c.self.invariant.0 c.args.name.now
    ∙ ap (λ (g : WithImports). number_of g c.args.name.now) c.self.view_is))
