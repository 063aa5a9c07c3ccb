-- An import is of a grammar of a kind that cannot be imported there.
use Rattle.std.proofs.Common.{◌≡◌, ◌↔◌, ◌<◌, List, ℕ, length, get_or, Bool, true, false, Some, IsTrue, refl, sym, ap, subst, ◌∙◌}
use Rattle.std.specs.List.{slice_get}
use Rattle.std.proofs.lemmas.Option.{slice_get_read}
use Rattle.g4_horn.specs.Follows.{Tells}
use Rattle.g4_merge.specs.Importing.{CanImport}
use Rattle.g4_fetch.specs.declared.closure.GrammarFile.{GrammarFile}
use Rattle.g4_fetch.specs.declared.closure.Import.{Import}
use Rattle.g4_fetch.specs.declared.closure.WithImports.{WithImports}
use Rattle.g4_imports.specs.Faults.{CannotImport}
use Rattle.g4_imports.specs.Modes.{HasMode}
use Rattle.g4_imports.specs.declared.fault.ImportFault.{ImportFault}
use Rattle.g4_imports.specs.declared.fault.ImportFault.TheVariants.{BadImport}

-- a file that is looked up
pub told_so : (lent files : List GrammarFile) (i : ℕ) (file : GrammarFile) → lent ≡ files → i < length lent → file ≡ get_or lent i file
    → slice_get files i ≡ Some file
told_so lent files i file same within is =
    sym (ap (λ (fs : List GrammarFile). slice_get fs i) same) ∙ slice_get_read lent (length lent) i file refl within is

-- two answers that are true in the same case are the same
same_answer : (a b : Bool) → (a ≡ true → b ≡ true) → (b ≡ true → a ≡ true) → a ≡ b
same_answer true true f g = refl
same_answer true false f g = let back = f refl in cc
same_answer false true f g = let back = g refl in cc
same_answer false false f g = refl

module _ (grammar : WithImports) (import : Import) (told : List Bool) (importer imported : GrammarFile) (modes can : Bool)
    (fault : ImportFault) (tells : Tells told (HasMode grammar)) (from : slice_get grammar.files import.importer ≡ Some importer)
    (to : slice_get grammar.files import.imported ≡ Some imported)
    (said : IsTrue modes ↔ (slice_get told import.imported ≡ Some true))
    (able : IsTrue can ↔ CanImport importer.source.kind imported.source.kind modes) where
  -- it cannot be
  pub cannot_import : can ≡ false → (file name : List ℕ) → file ≡ importer.name → name ≡ import.name → fault ≡ BadImport file name
      → CannotImport grammar import fault
  cannot_import not_able file name of by is = record {
    importer = importer;
    imported = imported;
    importer_there = from;
    imported_there = to;
    cannot = λ other exact allows.
        let same : other ≡ modes = same_answer other modes
        (λ yes. said.1 ((tells import.imported).1 (exact.0 yes)))
        (λ yes. exact.1 ((tells import.imported).0 (said.0 yes))) in
        let yes = able.1 (subst (CanImport importer.source.kind imported.source.kind) same allows) in
        let no_way : ⊥ = cc in no_way;
    told = is ∙ (ap (λ (f : List ℕ). BadImport f name) of ∙ ap (BadImport importer.name) by);
  }
