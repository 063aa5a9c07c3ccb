use Rattle.g4_preds.proofs.OneReading.{one_reading}
use Rattle.g4_preds.proofs.law.one_reading.Goals as goal

pub returns : goal.returns
returns c = one_reading
