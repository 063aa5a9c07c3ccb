-- The items of a pattern, one after another.
use Rattle.std.proofs.Common.{◌≡◌, ◌<◌, ◌≤◌, ◌+◌, ℕ, List, [], ◌++◌, length, drop, get_or, refl, sym, ◌∙◌, ap, append_assoc}
use Rattle.std.specs.Prelude.{Option, Some, None}
use Rattle.std.proofs.lemmas.List.{drop_all, drop_more}
use Rattle.g4_tokens.specs.declared.token.Tokens.{Tokens}
use Rattle.g4_trees.specs.declared.tree.Item.{Item}
use Rattle.g4_patterns.specs.declared.token.PatternToken.{PatternToken}
use Rattle.g4_patterns.specs.declared.binding.Binding.{Binding}
use Rattle.g4_patterns.specs.declared.stand.Stand.{Stand}
use Rattle.g4_patterns.specs.declared.stand.Step.{Step}
use Rattle.g4_patterns.specs.Walking.{all_found, before, bindings_of, joined, step, walk}

-- bindings before others are found where the others are
pub found_before : (bs : List Binding) (w : Option (List Binding)) → all_found (before bs w) ≡ all_found w
found_before bs None = refl
found_before bs (Some cs) = refl

-- more bindings before others
pub before_more : (bs cs : List Binding) (w : Option (List Binding)) → before bs (before cs w) ≡ before (bs ++ cs) w
before_more bs cs None = refl
before_more bs cs (Some ds) = ap (λ (es : List Binding). Some es) (sym (append_assoc bs cs ds))

module _ (pattern : List PatternToken) (xs : List Item) (lasts : List ℕ) (tokens : Tokens) where
  -- the item at a place is looked for
  at_item : (s : Stand) (all : List Item) (i : ℕ) (d : Item) (o : Option Step) → i < length all
      → o ≡ step xs lasts tokens pattern s (get_or all i d)
      → walk xs lasts tokens pattern s (drop i all)
      ≡ joined xs lasts tokens pattern (get_or all i d) o (λ next. walk xs lasts tokens pattern next (drop (i + 1) all))
  at_item s all i d o within is =
      ap (walk xs lasts tokens pattern s) (drop_more all i d within)
      ∙ ap (λ (p : Option Step). joined xs lasts tokens pattern (get_or all i d) p
      (λ next. walk xs lasts tokens pattern next (drop (i + 1) all))) (sym is)

  -- it is found
  pub item_found : (s : Stand) (all : List Item) (i : ℕ) (d : Item) (next : Step) → i < length all
      → Some next ≡ step xs lasts tokens pattern s (get_or all i d)
      → walk xs lasts tokens pattern s (drop i all)
      ≡ before (bindings_of pattern (get_or all i d) next.bound) (walk xs lasts tokens pattern next.next (drop (i + 1) all))
  item_found s all i d next within is = at_item s all i d (Some next) within is

  -- it is not found
  pub item_lost : (s : Stand) (all : List Item) (i : ℕ) (d : Item) → i < length all
      → None ≡ step xs lasts tokens pattern s (get_or all i d) → walk xs lasts tokens pattern s (drop i all) ≡ None
  item_lost s all i d within is = at_item s all i d None within is

  -- no item is left
  pub none_left : (s : Stand) (all : List Item) (i : ℕ) → length all ≤ i → walk xs lasts tokens pattern s (drop i all) ≡ Some []
  none_left s all i past = ap (walk xs lasts tokens pattern s) (drop_all i all past)
