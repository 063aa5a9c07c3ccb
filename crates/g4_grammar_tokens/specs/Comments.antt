-- Where comments end.
use Rattle.std.specs.Prelude.{ℕ, suc, List, [], ◌∷◌, Option, Some, None, option_map, ◌==◌, ◌&&◌, if◌then◌else◌}
use Rattle.g4_grammar_tokens.specs.Characters.{begins}

-- how many characters there are up to the next `*/`, that included
abbrev pub comment_end : List ℕ → Option ℕ
comment_end [] = None
comment_end (c ∷ cs) = if (c == 42) && begins 47 cs then Some 2 else option_map suc (comment_end cs)
