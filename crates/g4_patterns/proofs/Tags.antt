-- What is bound are the tags of the pattern.
use Rattle.std.proofs.Common.{◌≡◌, ℕ, List, ◌++◌, refl, sym, ◌∙◌, ap}
use Rattle.std.specs.Prelude.{map, slice_get}
use Rattle.std.specs.List.{flat_map}
use Rattle.std.proofs.lemmas.Grind.{flat_map-append}
use Rattle.std.proofs.lemmas.List.{map-append}
use Rattle.std.proofs.Math.Path.{ap₂}
use Rattle.g4_tokens.specs.declared.token.Tokens.{Tokens}
use Rattle.g4_trees.specs.Trees.{Tree, Forest, tokens_of, tokens_of_all}
use Rattle.g4_patterns.specs.declared.token.PatternToken.{PatternToken}
use Rattle.g4_patterns.specs.declared.binding.Binding.{Binding}
use Rattle.g4_patterns.specs.Matching.{Matches, any_node, same_rule, same_token, any_token, MatchAll, none_left, one_more}
use Rattle.g4_patterns.specs.Tags.{tag_name, tag_names}

-- the names of bindings
abbrev names : List Binding → List (List ℕ)
names bs = map (λ b. b.name) bs

module _ (pattern : List PatternToken) (tokens : Tokens) where
  -- the name of the tag at a place, where one is there
  abbrev at_place : ℕ → List (List ℕ)
  at_place place = tag_name (slice_get pattern place)

  mutual
    pub names_bound : {p : Tree} {k : ℕ} {t : Tree} {bs : List Binding} → Matches pattern tokens p k t bs
        → names bs ≡ tag_names pattern p
    names_bound (any_node rule alt at alt' at' place k name children is) = rw is refl
    names_bound (same_rule rule alt at alt' at' k ps ts bs h) = all_bound h
    names_bound (same_token place at k symbol text token is there type_is text_is) = rw is refl
    names_bound (any_token place at k symbol name token is there type_is) = rw is refl

    all_bound : {ps : Forest} {k : ℕ} {ts : Forest} {bs : List Binding} → MatchAll pattern tokens ps k ts bs
        → names bs ≡ flat_map at_place (tokens_of_all ps)
    all_bound (none_left k) = refl
    all_bound (one_more p t ps ts k first rest all h more is) =
        ap names is ∙ map-append (λ (b : Binding). b.name) first rest
        ∙ ap₂ (λ (xs ys : List (List ℕ)). xs ++ ys) (names_bound h) (all_bound more)
        ∙ sym (flat_map-append at_place (tokens_of p) (tokens_of_all ps))
