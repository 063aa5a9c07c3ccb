use Rattle.std.proofs.Common.{◌≡◌, ◌<◌, ◌++◌, codes, decimal, get_or, length, arith, rules}
use Rattle.g4_netlist.proofs.Marked.{spaced_next}
use Rattle.g4_netlist.proofs.line.push_spaced.Goals as goal

pub loop-number-preserved : goal.loop-number-preserved
loop-number-preserved c =
    let within : c.loop-number.number-index < length c.args.numbers.now = omega arith in
    let is : c.push.new.out.items ≡ c.loop-number.out.items
    ++ (codes " " ++ decimal (get_or c.args.numbers.now c.loop-number.number-index 0)) = search rules in
    spaced_next c.args.numbers.now c.loop-number.number-index c.loop-number.out.items c.push.new.out.items _ within is
    c.loop-number.invariant
