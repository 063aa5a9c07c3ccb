use Rattle.std.proofs.Common.{◌≡◌, ◌++◌, map, take}
use Rattle.g4_merge.proofs.importing.push_names.Given as goal

abbrev pub invariant-loop-name : goal.invariant-loop-name
invariant-loop-name l = map (λ n. n.now) l.found.items ≡ map (λ n. n.now) l.initial.found.items ++ take l.name-index l.names
