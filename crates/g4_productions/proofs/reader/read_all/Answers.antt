use Rattle.std.proofs.Common.{sym, ◌∙◌, ap, Some, arith}
use Rattle.std.proofs.lemmas.Result.{err_from_is_err_and}
use Rattle.g4_cursor.specs.Texts.{spelled}
use Rattle.g4_productions.proofs.Whole.{text_read, read_full, not_longer, text_left, text_stops, at_bad}
use Rattle.g4_productions.proofs.reader.read_all.Goals as goal

pub returns-in_err-source-clause-reads : goal.returns-in_err-source-clause-reads
returns-in_err-source-clause-reads c =
    let p = err_from_is_err_and c.from_residual.result c.from_residual.ensures.1 in
    rw (p.1, p.2) tt

pub overflow_sub-at : goal.overflow_sub-at
overflow_sub-at c = rw c.left.ensures (not_longer c.args.text.now c.args.tokens.now c.in_ok-source.source _
    (rw c.new-cursor.ensures at c.in_ok-source.ensures))

pub returns-in-Some-BadSet-clause-reads : goal.returns-in-Some-BadSet-clause-reads
returns-in-Some-BadSet-clause-reads c = (
  _,
  at_bad (spelled c.args.text.now c.args.tokens.now) c.in_ok-source.source _ (rw c.new-cursor.ensures at c.in_ok-source.ensures)
      (sym c.halt.ensures ∙ c.in-Some-BadSet.is ∙ ap Some c.in-Some-BadSet.field-0-is),
  c.place.ensures,
)

pub returns-in-Some-Fault-clause-reads : goal.returns-in-Some-Fault-clause-reads
returns-in-Some-Fault-clause-reads c =
    rw c.left.ensures (text_stops c.args.text.now c.args.tokens.now c.in_ok-source.source _
    (rw c.new-cursor.ensures at c.in_ok-source.ensures) (sym c.halt.ensures ∙ c.in-Some-Fault.is ∙ ap Some c.in-Some-Fault.field-0-is))

pub returns-then-at-tokens-clause-reads : goal.returns-then-at-tokens-clause-reads
returns-then-at-tokens-clause-reads c =
    rw c.left.ensures (text_left c.args.text.now c.args.tokens.now c.in_ok-source.source _
    (rw c.new-cursor.ensures at c.in_ok-source.ensures) (sym c.halt.ensures ∙ c.in-None.is) (omega (arith, c.left.ensures)))

pub returns-clause-reads : goal.returns-clause-reads
returns-clause-reads c =
    let read = rw c.new-cursor.ensures at c.in_ok-source.ensures in
    let fits = not_longer c.args.text.now c.args.tokens.now c.in_ok-source.source _ read in
    text_read (spelled c.args.text.now c.args.tokens.now) c.in_ok-source.source _ read (sym c.halt.ensures ∙ c.in-None.is)
    (omega (arith, c.left.ensures, fits))

pub returns-clause-full : goal.returns-clause-full
returns-clause-full c = read_full (spelled c.args.text.now c.args.tokens.now) c.in_ok-source.source _
    (rw c.new-cursor.ensures at c.in_ok-source.ensures) (sym c.halt.ensures ∙ c.in-None.is)
