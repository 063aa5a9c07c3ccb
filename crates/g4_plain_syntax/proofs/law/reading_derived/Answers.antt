use Rattle.std.proofs.Common.{[]}
use Rattle.g4_plain_syntax.proofs.Reading.{derived}
use Rattle.g4_plain_syntax.proofs.law.reading_derived.Goals as goal

pub returns : goal.returns
returns c = λ tokens tree reads. derived tree tokens [] reads
