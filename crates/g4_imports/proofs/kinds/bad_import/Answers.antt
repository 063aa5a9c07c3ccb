use Rattle.std.proofs.Common.{◌≡◌, ◌↔◌, List, ℕ, Bool, true, Some, IsTrue, length, refl, ap, subst, ◌∙◌}
use Rattle.std.specs.List.{slice_get}
use Rattle.std.proofs.lemmas.Option.{slice_get_read}
use Rattle.g4_fetch.specs.declared.closure.GrammarFile.{GrammarFile}
use Rattle.g4_imports.proofs.Cannot.{cannot_import, told_so}
use Rattle.g4_imports.proofs.kinds.bad_import.Goals as goal

pub returns : goal.returns
returns c =
    let grammar = c.args.grammar.now in
    let import = c.args.import.now in
    let files = c.as_slice-files.result.now in
    let importer = c.in-Some.importer.now in
    let imported = c.in-Some-get.imported.now in
    cannot_import grammar import c.args.modes.now importer imported c.has_mode-other_modes.result c.can_import.result _ c.requires
    (told_so files grammar.files import.importer importer c.as_slice-files.ensures c.in-Some.ensures.lookup.3.0 c.in-Some.ensures.lookup.1)
    (told_so files grammar.files import.imported imported c.as_slice-files.ensures c.in-Some-get.ensures.lookup.3.0
    c.in-Some-get.ensures.lookup.1) c.has_mode-other_modes.ensures c.can_import.ensures c.if-can_import.false _ _
    (c.in_ok-file.ensures ∙ c.as_str.ensures) (c.in_ok-name.ensures ∙ c.as_str-2.ensures) refl
