use Rattle.g4_reader.proofs.law.one_reading.Goals as goal
use Rattle.g4_reader.proofs.OneReading as readings

pub returns : goal.returns
returns c = readings.one_reading
