-- What is lent of a grammar, and the sets that are made of it.
use Rattle.std.specs.Prelude.{◌≡◌, ℕ, List, map, Bool, ◌||◌}
use Rattle.g4_source.specs.declared.source.Source.{Source}
use Rattle.g4_checks.specs.declared.atoms.AtomUse.{AtomUse}
use Rattle.g4_checks.specs.declared.clashes.Clashing.{Clashing}
use Rattle.g4_checks.specs.declared.parts.Parts.{Parts}
use Rattle.g4_checks.specs.References.{atoms_in, commands_in, lexers_in, parsers_in}
use Rattle.g4_checks.specs.Names.{is_one_of}
use Rattle.g4_source.specs.Atoms.{AtomIn}

-- the atom that is lent
abbrev pub use_view : AtomUse → AtomIn
use_view x = record { kind = x.kind; atom = x.atom.now }

-- the label is one of those that clash
abbrev pub clashes_in : Clashing → List ℕ → Bool
clashes_in clashing n = is_one_of clashing.repeated n || is_one_of clashing.capitalised n

-- these are the parts of the grammar
pub record AreParts (source : Source) (parts : Parts) : Type 0 where
  pub parsers : map (λ r. r.now) parts.parsers.items ≡ parsers_in source
  pub lexers : map (λ r. r.now) parts.lexers.items ≡ lexers_in source
  pub atoms : map use_view parts.atoms.items ≡ atoms_in source
  pub commands : map (λ c. c.now) parts.commands.items ≡ commands_in source
