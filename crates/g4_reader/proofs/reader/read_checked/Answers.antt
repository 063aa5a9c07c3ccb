use Rattle.std.proofs.Common.{take}
use Rattle.g4_cursor.specs.Texts.{from, spelled}
use Rattle.g4_reader.proofs.Readings.{cut_from, stopped_is}
use Rattle.g4_reader.proofs.Tokens.{cut_at}
use Rattle.g4_reader.proofs.reader.read_checked.Goals as goal

pub returns-in-Err-At-clause-reading : goal.returns-in-Err-At-clause-reading
returns-in-Err-At-clause-reading c =
    let text = c.args.text.now in
    let tokens = c.args.tokens.now in
    let stop = rw c.in-Err-At.field-0-is at c.in-Err-At.ensures.reads in
    let front = spelled text (take c.in-Err-At.at tokens) in
    let rest = from text tokens c.in-Err-At.at in
    stopped_is text (spelled text tokens) front rest c.fault_at.result
    (cut_from (spelled text tokens) front rest (cut_at text tokens c.in-Err-At.at) stop.0) stop.1 stop.2 c.fault_at.ensures
