use Rattle.std.proofs.Common.{◌≡◌, map, take, flat_map}
use Rattle.g4_merge.specs.Importing.{names_in}
use Rattle.g4_merge.proofs.importing.imported_names.Given as goal

abbrev pub invariant-loop-prequel : goal.invariant-loop-prequel
invariant-loop-prequel l = map (λ n. n.now) l.found.items ≡ flat_map names_in (take l.prequel-index l.source.prequels)
