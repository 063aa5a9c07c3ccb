-- Verdicts and paths of the code as the definitions see them. A snapshot is its row.
use Rattle.std.specs.Prelude.{map}
use Rattle.g4_net.specs.Prediction.{answer, error_at, sensitive, led_to, ended}
use Rattle.g4_net.specs.Prediction as prediction
use Rattle.g4_predict.specs.declared.path.Led.{Led}
use Rattle.g4_predict.specs.declared.path.Led.TheVariants.{Row, Ended}
use Rattle.g4_predict.specs.declared.path.Looked.{Looked}
use Rattle.g4_predict.specs.declared.path.Path.{Path}
use Rattle.g4_predict.specs.declared.verdict.Verdict.{Verdict}
use Rattle.g4_predict.specs.declared.verdict.Verdict.TheVariants.{Answer, ErrorAt, Sensitive}

-- the verdict of the code
abbrev pub verdict_of : Verdict → prediction.Verdict
verdict_of (Answer i) = answer i
verdict_of (ErrorAt k) = error_at k
verdict_of (Sensitive k) = sensitive k

-- what a symbol led to
abbrev pub led_of : Led → prediction.Led
led_of (Row row) = led_to row
led_of (Ended verdict) = ended (verdict_of verdict)

-- a symbol that was looked at, and what it led to
abbrev pub looked_of : Looked → prediction.Looked
looked_of entry = record { symbol = entry.symbol; led = led_of entry.led }

-- the path of the code
abbrev pub path_of : Path → prediction.Path
path_of path = record { start = path.start; looked = map looked_of path.looked }
