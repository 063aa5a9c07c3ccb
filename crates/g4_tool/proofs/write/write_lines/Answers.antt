use Rattle.std.proofs.Common.{◌<◌, length, rules, ◌∙◌}
use Rattle.g4_tool.proofs.Written.{front_with_item, wrote_with_item}
use Rattle.g4_tool.proofs.write.write_lines.Goals as goal

pub returns-in_err-write_line-clause-part : goal.returns-in_err-write_line-clause-part
returns-in_err-write_line-clause-part g c =
    let within : c.loop-line.line-index < length c.args.lines.now = search rules in
    front_with_item _ _ _ _ _ _ _ _ _ within c.line-item.is c.loop-line.invariant.so_far c.in_err-write_line.ensures.part

pub loop-line-preserved : goal.loop-line-preserved
loop-line-preserved g c =
    let within : c.loop-line.line-index < length c.args.lines.now = search rules in record {
      out_faults = c.in_ok-write_line.ensures.counts.0 ∙ c.loop-line.invariant.out_faults;
      err_faults = c.in_ok-write_line.ensures.counts.1 ∙ c.loop-line.invariant.err_faults;
      so_far = wrote_with_item _ _ _ _ _ _ _ _ _ within c.line-item.is c.loop-line.invariant.so_far c.in_ok-write_line.ensures.whole;
    }
