-- What comes of the walk over the items of a pattern are exactly the bindings with which it matches.
use Rattle.std.proofs.Common.{◌≡◌, inl, inr, ℕ, List, [], ◌++◌, length, drop, true, false, refl, sym, ◌∙◌, ap, arith, append-nil}
use Rattle.std.specs.Prelude.{Bool, Option, Some, None, cond, slice_get}
use Rattle.std.proofs.lemmas.Option.{slice_get_past}
use Rattle.g4_tokens.specs.declared.token.Tokens.{Tokens}
use Rattle.g4_trees.specs.declared.tree.Item.{Item}
use Rattle.g4_trees.specs.declared.tree.Item.TheVariants as items
use Rattle.g4_trees.specs.Trees.{Tree, items_of}
use Rattle.g4_patterns.specs.declared.token.PatternToken.{PatternToken}
use Rattle.g4_patterns.specs.declared.binding.Binding.{Binding}
use Rattle.g4_patterns.specs.Lasts.{AreLasts, IsIndexed}
use Rattle.g4_patterns.specs.Matching.{AreBindings, MatchesAt}
use Rattle.g4_patterns.specs.Places.{AreOneTree, IsTreeAt}
use Rattle.g4_patterns.specs.Walking.{all_found, begins_node, starting, walk}
use Rattle.g4_patterns.proofs.Bindings.{bindings, complete, sound}
use Rattle.g4_patterns.proofs.Subtrees.{Begins, a_whole, an_end, begins, first_at, is_node, node_begins, split, Split}
use Rattle.g4_patterns.proofs.Walks.{both_end, no_tree_at_end, no_tree_past, tree_walk}

-- what may be at a place: a tree, or none that a pattern's tree matches
data Placed (pattern : List PatternToken) (xs : List Item) (lasts : List ℕ) (tokens : Tokens) (p : Tree) (k : ℕ) : Type 0 where
  a_tree_at : (t : Tree) → IsTreeAt xs k t → Placed pattern xs lasts tokens p k
  no_walk : walk xs lasts tokens pattern (starting k) (items_of p) ≡ None → Placed pattern xs lasts tokens p k

module _ (pattern : List PatternToken) (xs : List Item) (lasts : List ℕ) (tokens : Tokens) where
  -- no items come after those of the pattern
  alone : (p : Tree) (k : ℕ) → walk xs lasts tokens pattern (starting k) (items_of p)
      ≡ walk xs lasts tokens pattern (starting k) (items_of p ++ [])
  alone p k = ap (walk xs lasts tokens pattern (starting k)) (sym (append-nil (items_of p)))

  -- where a tree begins, the walk gives the bindings
  pub at_tree : AreLasts xs lasts → (p t : Tree) (k : ℕ) → IsTreeAt xs k t
      → walk xs lasts tokens pattern (starting k) (items_of p) ≡ bindings pattern tokens p k t
  at_tree are p t k at = alone p k ∙ tree_walk pattern xs lasts tokens are p t k at.0 [] at.1 ∙ both_end (bindings pattern tokens p k t)

  -- what is at a place
  placed : AreOneTree xs → (p : Tree) (k : ℕ) → Placed pattern xs lasts tokens p k
  placed one p k = by (split k (length xs))
    where
      by_begin : Begins (drop k xs) → Placed pattern xs lasts tokens p k
      by_begin (an_end rest e) = no_walk (alone p k ∙ no_tree_at_end pattern xs lasts tokens p k [] (first_at xs k items.Exit rest e))
      by_begin (a_whole t rest e) = a_tree_at t (rest, e)

      by : Split k (length xs) → Placed pattern xs lasts tokens p k
      by (inl lt) = by_begin (begins xs one.0 k one.1 lt)
      by (inr h) = no_walk (alone p k ∙ no_tree_past pattern xs lasts tokens p k [] (slice_get_past xs k (let e = h.1 in omega arith)))

  -- where no node begins, nothing matches
  pub no_match : (ps : List Item) (k : ℕ) → begins_node (slice_get xs k) ≡ false → (bs : List Binding)
      → MatchesAt ps pattern xs tokens k bs → ⊥
  no_match ps k none bs m = let one : begins_node (slice_get xs k) ≡ true = node_begins xs k m.1 m.3 m.4 in absurd (cc)

  module _ (indexed : IsIndexed xs lasts) (ps : List Item) where
    -- where a node begins, the bindings are those of the walk
    exact : (p : Tree) (k : ℕ) → ps ≡ items_of p → begins_node (slice_get xs k) ≡ true → (w : Option (List Binding))
        → walk xs lasts tokens pattern (starting k) ps ≡ w → AreBindings ps pattern xs tokens k w
    exact p k e here None is = λ (bs : List Binding) (m : MatchesAt ps pattern xs tokens k bs).
        let found : walk xs lasts tokens pattern (starting k) ps ≡ Some bs =
        ap (walk xs lasts tokens pattern (starting k)) m.2 ∙ at_tree indexed.lasts_are m.0 m.1 k m.3 ∙ complete pattern tokens m.5 in
        cc
    exact p k e here (Some bs) is =
        by (placed indexed.nested p k) (ap (walk xs lasts tokens pattern (starting k)) (sym e) ∙ is)
      where
        by : Placed pattern xs lasts tokens p k → walk xs lasts tokens pattern (starting k) (items_of p) ≡ Some bs
            → MatchesAt ps pattern xs tokens k bs
        by (a_tree_at t at) same =
            (p, t, e, at, is_node xs k t at here, sound pattern tokens p k t bs (sym (at_tree indexed.lasts_are p t k at) ∙ same))
        by (no_walk none) same = absurd (cc)

    -- where the pattern's items are those of one tree
    pub are_bindings : AreOneTree ps → (k : ℕ) → begins_node (slice_get xs k) ≡ true → (w : Option (List Binding))
        → w ≡ walk xs lasts tokens pattern (starting k) ps → AreBindings ps pattern xs tokens k w
    are_bindings one k here w is = exact one.0 k one.1 here w (sym is)

    -- all items are found
    pub found_matches : AreOneTree ps → (k : ℕ)
        → cond (begins_node (slice_get xs k)) (all_found (walk xs lasts tokens pattern (starting k) ps)) false ≡ true
        → (bs : List Binding) × MatchesAt ps pattern xs tokens k bs
    found_matches one k e = by (begins_node (slice_get xs k)) refl (walk xs lasts tokens pattern (starting k) ps) refl e
      where
        by : (b : Bool) → begins_node (slice_get xs k) ≡ b → (w : Option (List Binding))
            → walk xs lasts tokens pattern (starting k) ps ≡ w → cond b (all_found w) false ≡ true
            → (bs : List Binding) × MatchesAt ps pattern xs tokens k bs
        by true here None is f = absurd (cc)
        by true here (Some bs) is f = (bs, exact one.0 k one.1 here (Some bs) is)
        by false here w is f = absurd (cc)

    -- no node begins there, or some item is not found
    pub lost_matches : AreOneTree ps → (k : ℕ)
        → cond (begins_node (slice_get xs k)) (all_found (walk xs lasts tokens pattern (starting k) ps)) false ≡ false
        → ((bs : List Binding) × MatchesAt ps pattern xs tokens k bs) → ⊥
    lost_matches one k e = by (begins_node (slice_get xs k)) refl (walk xs lasts tokens pattern (starting k) ps) refl e
      where
        by : (b : Bool) → begins_node (slice_get xs k) ≡ b → (w : Option (List Binding))
            → walk xs lasts tokens pattern (starting k) ps ≡ w → cond b (all_found w) false ≡ false
            → ((bs : List Binding) × MatchesAt ps pattern xs tokens k bs) → ⊥
        by true here None is f m = exact one.0 k one.1 here None is m.0 m.1
        by true here (Some bs) is f m = absurd (cc)
        by false here w is f m = no_match ps k here m.0 m.1
