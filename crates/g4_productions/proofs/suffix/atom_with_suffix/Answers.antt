use Rattle.std.proofs.Common.{sym, ◌∙◌, ap}
use Rattle.g4_source.proofs.Trees.{of_atom}
use Rattle.g4_productions.specs.Elements.{signed_atom}
use Rattle.g4_productions.proofs.suffix.atom_with_suffix.Goals as goal

pub returns-in-Once : goal.returns-in-Once
returns-in-Once c = of_atom c.args.atom ∙ sym (ap (signed_atom c.args.atom) c.in-Once.is)
