-- The fault that is reported of a file, or of an import, is that of the grammar.
use Rattle.std.proofs.Common.{◌≡◌, List, refl}
use Rattle.g4_source.specs.First.{IsFirst}
use Rattle.g4_fetch.specs.declared.closure.WithImports.{WithImports}
use Rattle.g4_imports.specs.Faults.{CannotImport, HasOwnNames, IsFault, RepeatsRule}
use Rattle.g4_imports.specs.declared.fault.ImportFault.{ImportFault}
use Rattle.g4_imports.specs.declared.fault.ImportFault.TheVariants.{RuleTwice, BadImport}

module _ (grammar : WithImports) where
  pub of_file : (fault : ImportFault) → IsFirst RepeatsRule grammar.files fault → IsFault grammar fault
  of_file (RuleTwice file rule) first = first
  of_file (BadImport file name) first = let told = first.reported.2 in absurd (let no_way : ⊥ = cc in no_way)

  pub of_import : (fault : ImportFault) → HasOwnNames grammar → IsFirst (CannotImport grammar) grammar.imports fault
      → IsFault grammar fault
  of_import (RuleTwice file rule) own first = let told = first.reported.told in absurd (let no_way : ⊥ = cc in no_way)
  of_import (BadImport file name) own first = (own, first)
