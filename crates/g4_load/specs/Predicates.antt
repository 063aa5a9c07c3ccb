-- The predicates of a grammar by their numbers.
use Rattle.std.specs.Prelude.{◌≡◌, List, Some, slice_get}
use Rattle.g4_source.specs.declared.name.Name.{Name}
use Rattle.g4_source.specs.declared.source.Source.{Source}
use Rattle.g4_grammar.specs.Written.{predicate_texts}
use Rattle.g4_preds.specs.Trees.{Tree}
use Rattle.g4_checks.specs.Predicates.{Reads}
use Rattle.g4_resolve.specs.Resolving.{place_named}

-- of these trees the one with the number of the predicate that is written so is the predicate's own
abbrev pub HasItsTree : Source → List Tree → Name → Type 0
HasItsTree source trees written =
    (tree : Tree) × (slice_get trees (place_named (predicate_texts source.rules) written.text) ≡ Some tree) × Reads written tree
