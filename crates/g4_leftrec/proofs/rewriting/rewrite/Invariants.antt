use Rattle.std.proofs.Common.{◌≡◌, ◌+◌, ◌<◌, ◌^◌, take}
use Rattle.std.specs.List.{All}
use Rattle.g4_leftrec.specs.Rewriting.{numberings, rewritten}
use Rattle.g4_leftrec.proofs.rewriting.rewrite.Given as goal

abbrev pub invariant-loop-rule : goal.invariant-loop-rule
invariant-loop-rule l = record {
  number : l.number ≡ l.rule-index;
  rules : l.laid.items ≡ rewritten (take l.rule-index l.rule-items);
  numberings : l.numberings.items ≡ numberings (take l.rule-index l.rule-items);
  small : All (λ numbering. numbering.count + 1 < 2 ^ 32) l.numberings.items;
}
