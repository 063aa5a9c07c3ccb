-- Lists that are seen newest first.
use Rattle.std.specs.Prelude.{List, [], ◌∷◌, ◌++◌, Option, Some, None}

-- the list from its end
abbrev pub newest_first : {A : Type 0} → List A → List A
newest_first [] = []
newest_first (x ∷ xs) = newest_first xs ++ x ∷ []

-- the first, if there is one
abbrev pub newest : {A : Type 0} → List A → Option A
newest [] = None
newest (x ∷ xs) = Some x
