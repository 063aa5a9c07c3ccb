use Rattle.std.proofs.Common.{[], map, take}
use Rattle.g4_checks.specs.Known.{AddsAll}
use Rattle.g4_checks.proofs.undefined.parser_names.Given as goal

abbrev pub invariant-loop-rule : goal.invariant-loop-rule
invariant-loop-rule l = AddsAll [] (map (λ r. r.now.name) (take l.rule-index l.rules)) l.names
