use Rattle.std.proofs.Common.{◌≡◌, Some, sym, ap, ◌∙◌}
use Rattle.g4_fetch.proofs.Continuing.{known_task}
use Rattle.g4_fetch.specs.Closures.{number_of}
use Rattle.g4_fetch.specs.Names.{grammar_file}
use Rattle.g4_fetch.specs.declared.closure.WithImports.{WithImports}
use Rattle.g4_fetch.proofs.reached.Reached.import_reached.Goals as goal

pub returns : goal.returns
returns c =
    let named : c.in_ok-file.file ≡ grammar_file c.args.prefix.now c.args.name =
    c.in_ok-file.ensures ∙ ap (grammar_file c.args.prefix.now) c.as_str.ensures in
    let found : number_of c.args.self.now c.in_ok-file.file ≡ Some c.in-Some.imported =
    sym (ap (number_of c.args.self.now) c.as_str-2.ensures) ∙ (sym c.number_of.ensures ∙ c.in-Some.is) in (
      ap (λ (g : WithImports). g.files) c.in_ok-add_import.ensures,
      λ files rest r h.
          known_task files c.args.prefix.now c.args.self.now c.add_import.new.self c.args.importer c.in-Some.imported c.args.name
          c.in_ok-file.file named found c.in_ok-add_import.ensures rest r h,
    )
