-- The names under which files are fetched.
use Rattle.std.specs.Prelude.{ℕ, List, [], ◌∷◌, ◌++◌, Option, Some, None, codes}
use Rattle.std.specs.Path.{rsplit_once, slash}

-- what a split name has before its last slash, with the slash
abbrev pub with_slash : Option (List ℕ × List ℕ) → List ℕ
with_slash None = []
with_slash (Some split) = split.0 ++ slash ∷ []

-- the name up to and with its last slash; nothing where it has none
abbrev pub folder_of : List ℕ → List ℕ
folder_of name = with_slash (rsplit_once slash name)

-- what is before the names of files: the library with a slash where there is one, else the folder of the main file
abbrev pub prefix_of : Option (List ℕ) → List ℕ → List ℕ
prefix_of (Some library) main = library ++ slash ∷ []
prefix_of None main = folder_of main

-- the name of the file of a grammar
abbrev pub grammar_file : List ℕ → List ℕ → List ℕ
grammar_file prefix name = prefix ++ name ++ codes ".g4"

-- the name of the file of tokens of a grammar
abbrev pub tokens_file : List ℕ → List ℕ → List ℕ
tokens_file prefix name = prefix ++ name ++ codes ".tokens"
