use Rattle.std.proofs.Common.{rules, ◌≡◌}
use Rattle.g4_fetch.specs.Closures.{file_names}
use Rattle.g4_imports.specs.Composites.{sources_of}
use Rattle.g4_imports.proofs.Composing.{composed}
use Rattle.g4_imports.proofs.composite.compose.Goals as goal

pub returns : goal.returns
returns c =
    let files = c.args.files.items in
    let named : c.new-names.result ≡ file_names files = search rules in
    let apart : c.in_ok-names.field-0.sources.items ≡ sources_of files = search rules in
    composed files c.new-names.result c.in_ok-names.field-0.sources.items c.remove-main.new.self.items
    c.remove-main.result c.in_ok-merged.merged
    c.requires named apart c.remove-main.ensures.value c.remove-main.ensures.items c.in_ok-merged.ensures
