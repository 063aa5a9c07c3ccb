-- What comes before the rules: prequels.
use Rattle.std.specs.Prelude.{ℕ, List, [], ◌∷◌, Option, Some, None}
use Rattle.g4_grammar_tokens.specs.declared.token.Kind.TheVariants as kinds
use Rattle.g4_source.specs.declared.prequel.Prequel.{Prequel}
use Rattle.g4_source.specs.declared.prequel.Prequel.TheVariants as prequels
use Rattle.g4_syntax.specs.Notation.{more_names, ◌▸◌, optional, repeated, part, sign, name, with_commas}
use Rattle.g4_syntax.specs.Productions.{imported, import, names, prequel}
use Rattle.g4_syntax.specs.Trees.{Tree, both, left, right, absent, present, end, more, inner}
use Rattle.g4_cursor.specs.Options.{settings_of}
use Rattle.g4_cursor.specs.Texts.{token_of, text_of}

-- an imported grammar: the name after `=` counts, where there is one
abbrev pub imported_of : Tree imported → List ℕ
imported_of (both n absent) = text_of n
imported_of (both n (present (both equals other))) = text_of other

-- the imported grammars after commas
abbrev pub imported_after : Tree (repeated (sign kinds.Comma ▸ imported)) → List (List ℕ)
imported_after end = []
imported_after (more (both comma i) is) = imported_of i ∷ imported_after is

abbrev mutual
  -- the names after a name
  pub names_after : Tree (optional (part more_names)) → List (List ℕ)
  names_after absent = []
  names_after (present (inner (both comma ns))) = names_from ns

  -- the names from a name on, if there is one
  pub names_from : Tree (optional (name ▸ optional (part more_names))) → List (List ℕ)
  names_from absent = []
  names_from (present (both n ns)) = text_of n ∷ names_after ns

-- names in braces
abbrev pub names_of : Tree names → List (List ℕ)
names_of (both brace (both ns end_brace)) = names_from ns

-- imported grammars with commas between
abbrev pub imports_of : Tree (with_commas imported) → List (List ℕ)
imports_of (both i is) = imported_of i ∷ imported_after is

-- the imported grammars of `import`
abbrev pub import_of : Tree import → Prequel
import_of (both keyword (both is semicolon)) = prequels.Import (token_of keyword).place (imports_of is)

-- what a prequel says; named actions are passed over
abbrev pub prequel_of : Tree prequel → Option Prequel
prequel_of (left o) = Some (prequels.Options (settings_of o))
prequel_of (right (left i)) = Some (import_of i)
prequel_of (right (right (left (both keyword ns)))) = Some (prequels.Tokens (token_of keyword).place (names_of ns))
prequel_of (right (right (right (left (both keyword ns))))) = Some (prequels.Channels (token_of keyword).place (names_of ns))
prequel_of (right (right (right (right action)))) = None

-- this, if it is kept, and these
abbrev pub with_kept : Option Prequel → List Prequel → List Prequel
with_kept None ps = ps
with_kept (Some p) ps = p ∷ ps

-- all that is kept
abbrev pub prequels_of : Tree (repeated prequel) → List Prequel
prequels_of end = []
prequels_of (more p ps) = with_kept (prequel_of p) (prequels_of ps)
