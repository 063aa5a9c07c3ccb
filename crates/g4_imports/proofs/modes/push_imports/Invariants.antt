use Rattle.std.proofs.Common.{◌≡◌, [], length, take}
use Rattle.g4_fetch.specs.declared.closure.WithImports.{WithImports}
use Rattle.g4_imports.specs.Clauses.{Covers}
use Rattle.g4_imports.proofs.modes.push_imports.Given as goal

abbrev pub invariant-loop-import : goal.invariant-loop-import
invariant-loop-import l = (grammar : WithImports) → length grammar.files ≡ l.count → grammar.imports ≡ l.imports
    → Covers grammar l.count [] l.initial.clauses.items → Covers grammar l.count (take l.import-index l.imports) l.clauses.items
