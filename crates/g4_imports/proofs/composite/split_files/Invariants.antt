use Rattle.std.proofs.Common.{◌≡◌}
use Rattle.g4_fetch.specs.Closures.{file_names}
use Rattle.g4_imports.specs.Composites.{sources_of}
use Rattle.g4_imports.proofs.composite.split_files.Given as goal

abbrev pub invariant-loop-file : goal.invariant-loop-file
invariant-loop-file l = (l.names.items ≡ file_names l.yielded) × (l.sources.items ≡ sources_of l.yielded)
