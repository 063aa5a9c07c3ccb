use Rattle.std.proofs.Common.{◌≡◌, ◌≤◌, List, ap, arith, length, map, ℕ, ◌∙◌}
use Rattle.bstr.specs.Text.{lines_of, without_terminator}
use Rattle.g4_base.specs.declared.limits.TheConstants.{MOST_BYTES}
use Rattle.g4_token_file.specs.Files.{file_lines}
use Rattle.g4_token_file.proofs.LineLengths.{unmarked_within}
use Rattle.g4_token_file.proofs.Steps.{reading_begins, reading_end, reading_more, reading_next, reading_stops}
use Rattle.g4_token_file.proofs.reader.read_tokens.Goals as goal

pub loop-line-init : goal.loop-line-init
loop-line-init c =
    let bytes = c.args.bytes.now in
    let lines = c.into_iter-line-iterator.result in
    let gives = c.into_iter-line-iterator.ensures.into_iter_gives in
    let all : lines ≡ file_lines bytes =
    gives ∙ (c.lines-line-items.ensures.value
    ∙ ap (λ (bs : List ℕ). map without_terminator (lines_of bs)) c.unmarked.ensures) in
    let few : length lines ≤ MOST_BYTES = omega (
      arith,
      ap length gives,
      c.lines-line-items.ensures.len,
      ap length c.unmarked.ensures,
      unmarked_within MOST_BYTES bytes c.requires,
    ) in
    reading_begins bytes lines c.new-table.result all c.new-table.ensures few c.requires

pub loop-line-preserved : goal.loop-line-preserved
loop-line-preserved c =
    let at = c.loop-line in
    let lines = file_lines c.args.bytes.now in
    let line = c.in-Some.line.now in
    let rest = c.next.new.self in
    reading_more lines rest line at.number at.table c.in-Ok.longer
    (reading_next lines at.line-iterator rest line at.number at.table c.in-Some.ensures.steps at.invariant) c.in-Ok.ensures

pub returns-in-Err : goal.returns-in-Err
returns-in-Err c =
    let at = c.loop-line in
    let lines = file_lines c.args.bytes.now in
    let line = c.in-Some.line.now in
    let rest = c.next.new.self in
    rw c.at_line.ensures (reading_stops c.args.bytes.now rest line at.number at.table c.in-Err.fault
    (reading_next lines at.line-iterator rest line at.number at.table c.in-Some.ensures.steps at.invariant) c.in-Err.ensures)

pub returns : goal.returns
returns c =
    let at = c.loop-line in
    reading_end (file_lines c.args.bytes.now) at.line-iterator at.number at.table c.in-None.ensures.steps.0 at.invariant
