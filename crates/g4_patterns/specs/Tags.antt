-- The tags of a pattern.
use Rattle.std.specs.Prelude.{ℕ, List, [], ◌∷◌, Option, Some, None, slice_get}
use Rattle.std.specs.List.{flat_map}
use Rattle.g4_trees.specs.Trees.{Tree, tokens_of}
use Rattle.g4_patterns.specs.declared.token.PatternToken.{PatternToken}
use Rattle.g4_patterns.specs.declared.token.PatternToken.TheVariants as patterns

-- the name of a token that was looked up, where it is a tag
abbrev pub tag_name : Option PatternToken → List (List ℕ)
tag_name None = []
tag_name (Some (patterns.Plain symbol text)) = []
tag_name (Some (patterns.TokenTag symbol name)) = name ∷ []
tag_name (Some (patterns.RuleTag rule name)) = name ∷ []

-- the names of the tags among the leaves of a tree, in order
abbrev pub tag_names : List PatternToken → Tree → List (List ℕ)
tag_names pattern p = flat_map (λ place. tag_name (slice_get pattern place)) (tokens_of p)
