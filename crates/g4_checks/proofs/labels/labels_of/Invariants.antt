use Rattle.std.proofs.Common.{◌≡◌, map, take}
use Rattle.std.specs.List.{filter_map}
use Rattle.g4_checks.specs.Labels.{label_of}
use Rattle.g4_checks.proofs.labels.labels_of.Given as goal

abbrev pub invariant-loop-alternative : goal.invariant-loop-alternative
invariant-loop-alternative l = map (λ x. x.now) l.labels.items ≡ filter_map label_of (take l.alternative-index l.alternative-items)
