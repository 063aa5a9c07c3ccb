-- The predicates of a grammar by their numbers.
use Rattle.std.proofs.Common.{◌≡◌, ℕ, zero, suc, List, [], ◌∷◌, Option, Some, Result, Ok, refl, subst, slice_get}
use Rattle.g4_source.specs.declared.name.Name.{Name}
use Rattle.g4_source.specs.declared.rule.Rule.{Rule}
use Rattle.g4_grammar.specs.Written.{predicate_texts}
use Rattle.g4_preds.specs.Trees.{Tree}
use Rattle.g4_checks.specs.Predicates.{ArePredicates, IsRead}
use Rattle.g4_resolve.specs.Resolving.{IsPredicateOf, place_named}
use Rattle.g4_fetch.specs.Files.{Files}
use Rattle.g4_load.specs.Loading.{Loads, Unifies}
use Rattle.g4_load.specs.Predicates.{HasItsTree}
use Rattle.g4_load.specs.declared.loading.Loaded.{Loaded}
use Rattle.g4_load.specs.declared.stop.Stop.{Stop}
use Rattle.g4_load.specs.declared.whole.United.{United}
use Rattle.g4_load.proofs.CarriedOut.{IsOf, loaded_from}
use Rattle.g4_load.proofs.OneBuilt.{one_unified}

-- the tree of the action with this number
tree_at : (actions : List (List ℕ)) (trees : List Tree) (k : ℕ) (action : List ℕ) → ArePredicates actions trees
    → slice_get actions k ≡ Some action → (tree : Tree) × (slice_get trees k ≡ Some tree) × IsRead action tree
tree_at [] trees k action h at = absurd (let no_way : ⊥ = cc in no_way)
tree_at (first ∷ actions) [] k action h at = absurd h
tree_at (first ∷ actions) (tree ∷ trees) zero action h at =
    let same : first ≡ action = cc in (tree, refl, subst (λ (a : List ℕ). IsRead a tree) same h.0)
tree_at (first ∷ actions) (tree ∷ trees) (suc k) action h at = tree_at actions trees k action h.1 at

-- the number of a predicate is that of its own text
abbrev pub NumbersAreOfTexts : Type 0
NumbersAreOfTexts = (rules : List Rule) (written : Name) → IsPredicateOf rules written
    → slice_get (predicate_texts rules) (place_named (predicate_texts rules) written.text) ≡ Some written.text

module _ (files : Files) (library : Option (List ℕ)) (name : List ℕ) where
  -- each predicate of a grammar has its tree
  pub have_their_trees : NumbersAreOfTexts → (f g : List (List ℕ)) (united : United) (loaded : Loaded) (written : Name)
      → Unifies files library name f (Ok united) → Loads files library name g (Ok loaded)
      → IsPredicateOf united.whole.source.rules written → HasItsTree united.whole.source loaded.predicates written
  have_their_trees numbers f g united loaded written unifies loads of = by_source (loaded_from files library name g loaded loads)
    where
      by_source : (other : United) × Unifies files library name g (Ok other) × IsOf other.table other.whole.source loaded
          → HasItsTree united.whole.source loaded.predicates written
      by_source (other, also, is) =
          let one : ◌≡◌ {A = Result United Stop} (Ok united) (Ok other) =
          one_unified files library name f g (Ok united) (Ok other) unifies also in
          let same : other ≡ united = cc in
          let texts = predicate_texts united.whole.source.rules in
          tree_at texts loaded.predicates (place_named texts written.text) written.text
          (subst (λ (s : United). ArePredicates (predicate_texts s.whole.source.rules) loaded.predicates) same is.made.predicates)
          (numbers united.whole.source.rules written of)
