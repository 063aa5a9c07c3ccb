use Rattle.std.proofs.Common.{sym, ◌∙◌}
use Rattle.std.proofs.lemmas.Result.{err_from_is_err_and}
use Rattle.g4_token_file.proofs.Steps.{known_again, known_other, line_fault, no_bytes, one_more, past_empty, some_bytes}
use Rattle.g4_token_file.proofs.reader.add_line.Goals as goal

pub returns-then-is_empty : goal.returns-then-is_empty
returns-then-is_empty c =
    past_empty c.args.table c.args.line.now (no_bytes c.args.line.now (sym c.is_empty.ensures ∙ c.if-is_empty.true))

pub returns-in_err-entry : goal.returns-in_err-entry
returns-in_err-entry c =
    let line = c.args.line.now in
    let p = err_from_is_err_and c.from_residual.result c.from_residual.ensures.1 in
    rw (p.1, p.2) (line_fault c.args.table line c.in_err-entry.field-0.0
    (some_bytes line (sym c.is_empty.ensures ∙ c.if-is_empty.false)) c.in_err-entry.ensures)

pub returns-then-known-entry : goal.returns-then-known-entry
returns-then-known-entry c =
    known_again c.args.table c.args.line.now c.in_ok-entry.entry c.in-Some.known c.in_ok-entry.ensures (sym c.in-Some.ensures.value)
    c.in-Some.ensures.within c.if-known-entry.true

pub returns-else-known-entry : goal.returns-else-known-entry
returns-else-known-entry c =
    known_other c.args.table c.args.line.now c.in_ok-entry.entry c.in-Some.known c.in_ok-entry.ensures (sym c.in-Some.ensures.value)
    c.in-Some.ensures.within c.if-known-entry.false

pub returns-in_ok-longer-in-None : goal.returns-in_ok-longer-in-None
returns-in_ok-longer-in-None c =
    one_more c.args.table c.in_ok-longer-in-None.longer c.args.line.now c.in_ok-entry.entry c.in_ok-entry.ensures
    (sym c.in-None.ensures.value) c.if-entry-gt-MOST_TYPES.false c.in_ok-longer-in-None.ensures
