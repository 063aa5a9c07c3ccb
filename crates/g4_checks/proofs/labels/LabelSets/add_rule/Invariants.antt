use Rattle.std.proofs.Common.{map, take}
use Rattle.g4_checks.specs.Known.{AddsAll, Counting}
use Rattle.std.proofs.Common.{[]}
use Rattle.g4_checks.proofs.labels.LabelSets.add_rule.Given as goal

abbrev pub invariant-loop-label : goal.invariant-loop-label
invariant-loop-label l = AddsAll [] (map (λ x. x.now) (take l.label-index l.label-items)) l.own
    × Counting l.initial.self.once l.initial.self.again l.own l.self.once l.self.again
