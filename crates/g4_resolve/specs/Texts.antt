-- The texts of the predicates among atoms.
use Rattle.std.specs.Prelude.{ℕ, List}
use Rattle.std.specs.List.{flat_map}
use Rattle.g4_source.specs.declared.atom.Atom.{Atom}
use Rattle.g4_grammar.specs.Written.{predicate_text}

-- the texts of those atoms that are predicates, in order
abbrev pub texts_among : List Atom → List (List ℕ)
texts_among atoms = flat_map (λ a. predicate_text a.kind) atoms
