use Rattle.std.proofs.Common.{◌≡◌, []}
use Rattle.g4_fetch.specs.declared.closure.WithImports.{WithImports}
use Rattle.g4_imports.specs.Clauses.{Covers}
use Rattle.g4_imports.proofs.modes.push_owns.Given as goal

abbrev pub invariant-loop-number : goal.invariant-loop-number
invariant-loop-number l = (grammar : WithImports) → grammar.files ≡ l.files → Covers grammar 0 [] l.initial.clauses.items
    → Covers grammar l.number [] l.clauses.items
