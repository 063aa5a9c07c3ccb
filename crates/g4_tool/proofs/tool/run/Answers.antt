use Rattle.std.proofs.Common.{refl}
use Rattle.g4_tool.proofs.Reports.{comes_exactly, is_complete, reported_front, wrote_lent}
use Rattle.g4_tool.proofs.tool.run.Goals as goal

pub returns-in-Ok-write_lines-clause-whole : goal.returns-in-Ok-write_lines-clause-whole
returns-in-Ok-write_lines-clause-whole g c = λ files nothing.
    let is = c.in-Ok.ensures.content files nothing.tells in record {
      reported = record {
        report = c.in-Ok.report;
        is = is;
        status = refl;
        lines = wrote_lent _ _ c.as_slice.ensures c.in-Ok-write_lines.ensures.whole;
      };
      exactly = comes_exactly files _ _ c.in-Ok.report is refl;
      complete = is_complete files _ _ c.in-Ok.report is refl;
    }

pub returns-in-Ok-write_lines-clause-part : goal.returns-in-Ok-write_lines-clause-part
returns-in-Ok-write_lines-clause-part g c = λ files told.
    reported_front files _ _ c.in-Ok.report c.as_slice.ensures (c.in-Ok.ensures.content files told) c.in-Ok-write_lines.ensures.part

pub returns-in-Ok-clause-part : goal.returns-in-Ok-clause-part
returns-in-Ok-clause-part g c = λ files told.
    reported_front files _ _ c.in-Ok.report c.as_slice.ensures (c.in-Ok.ensures.content files told) c.write_lines.ensures.part
