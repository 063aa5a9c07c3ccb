use Rattle.std.proofs.Common.{◌≡◌, ◌++◌, drop}
use Rattle.g4_netlist.specs.Shown.{more_symbols}
use Rattle.g4_netlist.proofs.shown.push_more.Given as goal

abbrev pub invariant-loop-symbol : goal.invariant-loop-symbol
invariant-loop-symbol l = l.out.items ++ more_symbols l.types (drop l.symbol-index l.symbols)
    ≡ l.initial.out.items ++ more_symbols l.types l.symbols
