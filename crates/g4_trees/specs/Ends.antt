-- The last of some wraps.
use Rattle.std.specs.Prelude.{◌≡◌, ◌≢◌, ℕ, List, ◌∷◌, [], ◌++◌, Option, Some, None}
use Rattle.g4_trees.specs.declared.builder.Wrap.{Wrap}

-- the last of the wraps is at this place and has this alternative; or there is none, or it is elsewhere
abbrev pub IsWrapAt : List Wrap → ℕ → Option ℕ → Type 0
IsWrapAt ws place (Some alt) = (front : List Wrap) × (ws ≡ front ++ record { end = place; alt = alt } ∷ [])
IsWrapAt ws place None = (front : List Wrap) (w : Wrap) → ws ≡ front ++ w ∷ [] → w.end ≢ place
