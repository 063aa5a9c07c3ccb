-- Which token lists have a tree: those that the rules derive, as they are written.
use Rattle.std.proofs.Common.{◌≡◌, ◌↔◌, ℕ, List, inl, inr, subst}
use Rattle.g4_derivation.specs.Spelling.{DerivesFrom}
use Rattle.g4_grammar.specs.StepRules.{AreUnpredicated, CanBeRewritten, StepRule}
use Rattle.g4_layout.specs.Built.{IsBuilt}
use Rattle.g4_leftrec.specs.Rewriting.{numberings, rewritten}
use Rattle.g4_net.specs.Network.{ParserNetwork}
use Rattle.g4_run.specs.Running.{Ending, Ends, Values, parsed, too_deep}
use Rattle.g4_run.proofs.Derived.{derived_ends, tree_derives}
use Rattle.g4_tokens.specs.TokenList.{EndsInEnd}
use Rattle.g4_trees.specs.Trees.{Tree}
use Rattle.g4_written.proofs.Derived.{added_derives}

module _ (set : List ℕ) (rules : List StepRule) (start : List ℕ) (net : ParserNetwork) (values : Values) (word : List ℕ)
    (built : IsBuilt set (rewritten rules) (numberings rules) start net) where
  -- a token list that has a tree is derived
  pub tree_is_derived : (tree : Tree) → EndsInEnd word → Ends net values word (parsed tree) → DerivesFrom set rules start word
  tree_is_derived tree once run =
      (added_derives set rules start word).1
      (tree_derives set (rewritten rules) (numberings rules) start net values word tree built once run)

  -- exactly one that is derived has a tree, where no rule has a predicate and there are not too many open rules
  pub tree_where_derived : (ending : Ending) → CanBeRewritten rules → AreUnpredicated rules → EndsInEnd word → Ends net values word ending
      → ((at : ℕ) → ending ≡ too_deep at → ⊥) → ((tree : Tree) × (ending ≡ parsed tree)) ↔ DerivesFrom set rules start word
  tree_where_derived ending can none once run shallow = (
    λ t. tree_is_derived t.0 once (subst (Ends net values word) t.1 run),
    λ d. elim (derived_ends set rules start net values word ending can none built ((added_derives set rules start word).0 d) run) [
      | inl tree ↦ tree
      | inr deep ↦ absurd (shallow deep.0 deep.1)
    ],
  )
