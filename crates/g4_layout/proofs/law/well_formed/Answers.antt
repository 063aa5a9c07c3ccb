use Rattle.std.specs.Prelude.{Contains}
use Rattle.g4_layout.proofs.Formed as formed
use Rattle.g4_layout.proofs.law.well_formed.Goals as goal

pub returns : goal.returns
returns c = λ rules net network in_range h full listed. formed.well_formed Contains rules net network in_range full h.0 h.1 listed
