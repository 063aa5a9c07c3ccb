use Rattle.g4_written.proofs.Derived.{added_derives}
use Rattle.g4_written.proofs.law.rewriting_keeps_derivation.Goals as goal

pub returns : goal.returns
returns c = λ set rules start word. added_derives set rules start word
