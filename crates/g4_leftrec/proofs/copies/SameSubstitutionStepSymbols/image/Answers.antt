use Rattle.g4_source.proofs.Trees.{of_atom}
use Rattle.g4_leftrec.proofs.copies.SameSubstitutionStepSymbols.image.Goals as goal

pub returns : goal.returns
returns c = rw c.in_ok-copy.ensures (of_atom c.args.atom.now)
