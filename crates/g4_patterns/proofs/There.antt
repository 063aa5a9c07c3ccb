-- What the walk over what is lent by a pattern and a subject says of these.
use Rattle.std.proofs.Common.{◌≡◌, ℕ, List, [], Bool, true, false, sym, ◌∙◌, ap}
use Rattle.std.specs.Prelude.{Option, None, cond, slice_get}
use Rattle.g4_tokens.specs.declared.token.Tokens.{Tokens}
use Rattle.g4_trees.specs.declared.tree.Item.{Item}
use Rattle.g4_patterns.specs.declared.token.PatternToken.{PatternToken}
use Rattle.g4_patterns.specs.declared.binding.Binding.{Binding}
use Rattle.g4_patterns.specs.Lasts.{IsIndexed}
use Rattle.g4_patterns.specs.Matching.{AreBindings, MatchesAt}
use Rattle.g4_patterns.specs.Places.{AreOneTree}
use Rattle.g4_patterns.specs.Walking.{all_found, begins_node, starting, walk}
use Rattle.g4_patterns.proofs.Exact.{are_bindings, found_matches, lost_matches, no_match}

-- where no node begins among the items that are lent, nothing matches
pub none_there : (ps : List Item) (pattern : List PatternToken) (xs ys : List Item) (tokens : Tokens) → ys ≡ xs → (k : ℕ)
    → false ≡ begins_node (slice_get ys k) → AreBindings ps pattern xs tokens k None
none_there ps pattern xs ys tokens same k is =
    no_match pattern xs [] tokens ps k (sym (is ∙ ap (λ (zs : List Item). begins_node (slice_get zs k)) same))

-- what is lent is what contracts see: the items and tokens of the pattern, the items of the tree, and its tokens
pub record Lent (ps qs : List Item) (pattern rs : List PatternToken) (xs ys : List Item) (tokens us : Tokens) : Type 0 where
  pub items : qs ≡ ps
  pub pattern_tokens : rs ≡ pattern
  pub tree : ys ≡ xs
  pub file : us ≡ tokens

module _ (ps qs : List Item) (pattern rs : List PatternToken) (xs ys : List Item) (tokens us : Tokens) (lasts : List ℕ)
    (lent : Lent ps qs pattern rs xs ys tokens us) where
  -- the same walk
  same_walk : (k : ℕ) → walk ys lasts us rs (starting k) qs ≡ walk xs lasts tokens pattern (starting k) ps
  same_walk k =
      ap (λ (zs : List Item). walk ys lasts us rs (starting k) zs) lent.items
      ∙ ap (λ (ts : List PatternToken). walk ys lasts us ts (starting k) ps) lent.pattern_tokens
      ∙ ap (λ (zs : List Item). walk zs lasts us pattern (starting k) ps) lent.tree
      ∙ ap (λ (ts : Tokens). walk xs lasts ts pattern (starting k) ps) lent.file

  -- and the same node
  same_node : (k : ℕ) → begins_node (slice_get ys k) ≡ begins_node (slice_get xs k)
  same_node k = ap (λ (zs : List Item). begins_node (slice_get zs k)) lent.tree

  -- so all is found alike
  same_match : (k : ℕ) → cond (begins_node (slice_get ys k)) (all_found (walk ys lasts us rs (starting k) qs)) false
      ≡ cond (begins_node (slice_get xs k)) (all_found (walk xs lasts tokens pattern (starting k) ps)) false
  same_match k =
      ap (λ (b : Bool). cond b (all_found (walk ys lasts us rs (starting k) qs)) false) (same_node k)
      ∙ ap (λ (w : Option (List Binding)). cond (begins_node (slice_get xs k)) (all_found w) false) (same_walk k)

  -- its bindings
  pub bindings_there : IsIndexed xs lasts → AreOneTree ps → (k : ℕ) → true ≡ begins_node (slice_get ys k) → (w : Option (List Binding))
      → w ≡ walk ys lasts us rs (starting k) qs → AreBindings ps pattern xs tokens k w
  bindings_there indexed one k here w is =
      are_bindings pattern xs lasts tokens indexed ps one k (sym (here ∙ same_node k)) w (is ∙ same_walk k)

  -- it finds all
  pub found_there : IsIndexed xs lasts → AreOneTree ps → (k : ℕ)
      → true ≡ cond (begins_node (slice_get ys k)) (all_found (walk ys lasts us rs (starting k) qs)) false
      → (bs : List Binding) × MatchesAt ps pattern xs tokens k bs
  found_there indexed one k is = found_matches pattern xs lasts tokens indexed ps one k (sym (is ∙ same_match k))

  -- it does not
  pub lost_there : IsIndexed xs lasts → AreOneTree ps → (k : ℕ)
      → false ≡ cond (begins_node (slice_get ys k)) (all_found (walk ys lasts us rs (starting k) qs)) false
      → ((bs : List Binding) × MatchesAt ps pattern xs tokens k bs) → ⊥
  lost_there indexed one k is = lost_matches pattern xs lasts tokens indexed ps one k (sym (is ∙ same_match k))
