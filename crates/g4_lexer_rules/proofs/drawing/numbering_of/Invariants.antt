use Rattle.std.proofs.Common.{◌≡◌, ◌+◌}
use Rattle.std.specs.List.{range_with_len}
use Rattle.g4_lexer_rules.proofs.drawing.numbering_of.Given as goal

abbrev pub invariant-loop : goal.invariant-loop
invariant-loop l = record {
  counted : l.next ≡ l.counter + 1;
  made : l.starts.items ≡ range_with_len 1 l.counter;
}
