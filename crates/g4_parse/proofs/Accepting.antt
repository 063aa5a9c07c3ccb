-- A token list is accepted only where the rules derive it, as they are written, and exactly there where they have no predicate.
use Rattle.std.proofs.Common.{◌≡◌, inl, inr, ℕ, List, Result, Ok, Err}
use Rattle.g4_derivation.specs.Spelling.{DerivesFrom}
use Rattle.g4_grammar.specs.StepRules.{AreUnpredicated, CanBeRewritten, StepRule}
use Rattle.g4_layout.specs.Built.{IsBuilt}
use Rattle.g4_leftrec.specs.Rewriting.{numberings, rewritten}
use Rattle.g4_net.specs.Network.{ParserNetwork}
use Rattle.g4_parse.specs.Parsing.{IsAcceptance, IsParse}
use Rattle.g4_parse.specs.declared.parser.ParseFault.{ParseFault}
use Rattle.g4_parse.specs.declared.parser.ParseFault.TheVariants.{NoViable, Mismatch, FailedPredicate, TooDeep, NoMemory}
use Rattle.g4_run.specs.Running.{Ending, Ends, Values, parsed, not_viable, mismatch, failed_predicate, too_deep}
use Rattle.g4_run.proofs.Derived.{derived_ends}
use Rattle.g4_tokens.specs.TokenList.{EndsInEnd}
use Rattle.g4_trees.specs.Trees.{Tree}
use Rattle.g4_trees.specs.declared.tree.Item.{Item}
use Rattle.g4_written.proofs.Accepted.{tree_is_derived}
use Rattle.g4_written.proofs.Derived.{added_derives}

module _ (set : List ℕ) (rules : List StepRule) (start : List ℕ) (net : ParserNetwork) (values : Values) (word : List ℕ)
    (can : CanBeRewritten rules) (built : IsBuilt set (rewritten rules) (numberings rules) start net) where
  -- the rules derive the list, as they are written
  abbrev Derived : Type 0
  Derived = DerivesFrom set rules start word

  -- an ending that is neither a tree nor too many open rules
  abbrev IsRefusal : Ending → Type 0
  IsRefusal e = ((tree : Tree) → e ≡ parsed tree → ⊥) × ((at : ℕ) → e ≡ too_deep at → ⊥)

  -- it comes only where the list is not derived
  refused : (e : Ending) → IsRefusal e → Ends net values word e → AreUnpredicated rules → Derived → ⊥
  refused e other run none derived =
      elim (derived_ends set rules start net values word e can none built ((added_derives set rules start word).0 derived) run) [
        | inl tree ↦ other.0 tree.0 tree.1
        | inr deep ↦ other.1 deep.0 deep.1
      ]

  -- so the answer of the parse call says whether the list is derived
  pub accepts : EndsInEnd word → (x : Result (List Item) ParseFault) → IsParse net values word x
      → IsAcceptance (AreUnpredicated rules) Derived x
  accepts ends (Ok xs) (tree, run, is) = tree_is_derived set rules start net values word built tree ends run
  accepts ends (Err (NoViable at)) run = refused (not_viable at) (λ t e. (let no : ⊥ = cc in no), λ k e. (let no : ⊥ = cc in no)) run
  accepts ends (Err (Mismatch at state)) run = refused (mismatch at state)
      (λ t e. (let no : ⊥ = cc in no), λ k e. (let no : ⊥ = cc in no)) run
  accepts ends (Err (FailedPredicate at rule)) run = refused (failed_predicate at rule)
      (λ t e. (let no : ⊥ = cc in no), λ k e. (let no : ⊥ = cc in no)) run
  accepts ends (Err (TooDeep at)) run = tt
  accepts ends (Err NoMemory) run = tt
