use Rattle.std.proofs.Common.{sym, ◌∙◌, ap}
use Rattle.g4_source.proofs.Trees.{of_block}
use Rattle.g4_productions.specs.declared.suffix.Labelled.{Labelled}
use Rattle.g4_productions.specs.Elements.{labelled_of, with_suffix}
use Rattle.g4_productions.proofs.suffix.with_suffix.Goals as goal

pub returns-in-Brackets : goal.returns-in-Brackets
returns-in-Brackets c = of_block c.in-Brackets.label c.args.repeat c.in-Brackets.alternatives
    ∙ sym (ap (λ (x : Labelled). with_suffix (labelled_of x) c.args.repeat) c.in-Brackets.is)
