use Rattle.g4_reader.proofs.SomeReading as readings
use Rattle.g4_reader.proofs.law.some_reading.Goals as goal

pub returns : goal.returns
returns c = readings.some_reading
