-- Where comments end, by steps of one character.
use Rattle.std.proofs.Common.{◌≡◌, ℕ, suc, ◌+◌, Bool, true, false, cond, List, [], ◌∷◌, Option, Some, None, option_map, ◌==◌, ◌&&◌, if◌then◌else◌, refl, ◌∙◌}
use Rattle.g4_grammar_tokens.specs.Characters.{begins}
use Rattle.g4_grammar_tokens.specs.Comments.{comment_end}
use Rattle.g4_grammar_tokens.proofs.Counts.{more_by, one_more, none_more}

-- how many characters there are up to the next `*/`, that included, added to those taken before
abbrev pub comment_end_from : ℕ → List ℕ → Option ℕ
comment_end_from taken [] = None
comment_end_from taken (c ∷ cs) = if (c == 42) && begins 47 cs then Some (taken + 2) else comment_end_from (taken + 1) cs

by_end : (ends : Bool) (n : ℕ) (a b : Option ℕ) → a ≡ more_by (n + 1) b
    → cond ends (Some (n + 2)) a ≡ more_by n (cond ends (Some 2) (option_map suc b))
by_end true n a b f = refl
by_end false n a b f = f ∙ one_more n b

counted : (n : ℕ) (text : List ℕ) → comment_end_from n text ≡ more_by n (comment_end text)
counted n [] = refl
counted n (c ∷ cs) = by_end ((c == 42) && begins 47 cs) n (comment_end_from (n + 1) cs) (comment_end cs) (counted (n + 1) cs)

-- the steps find where the comment ends
pub steps_find : (text : List ℕ) → comment_end_from 0 text ≡ comment_end text
steps_find text = counted 0 text ∙ none_more (comment_end text)
