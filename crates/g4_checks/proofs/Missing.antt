-- The rules that predicates name.
use Rattle.std.proofs.Common.{◌≡◌, ℕ, List, Bool, Option, Some, None, Err, sym, subst, ◌∙◌}
use Rattle.std.specs.Str.{chars}
use Rattle.g4_base.specs.declared.place.Place.{Place}
use Rattle.g4_source.specs.declared.name.Name.{Name}
use Rattle.g4_preds.specs.declared.predicate.PredicateFault.{PredicateFault}
use Rattle.g4_preds.specs.declared.predicate.PredicateFault.TheVariants.{Unknown}
use Rattle.g4_preds.specs.Readings.{IsPredicate, IsReading}
use Rattle.g4_preds.specs.Trees.{Tree, rules_of}
use Rattle.g4_preds.proofs.OneReading.{one_reading}
use Rattle.g4_source.specs.First.{Finds, FindsFirst, IsFirst, IsNone}
use Rattle.g4_source.proofs.OneFirst.{not_both, one_first}
use Rattle.g4_checks.specs.Predicates.{IsMissing, NamesMissing, Reads, text_of_predicate}

-- a predicate is one tree
one_tree : (written : Name) (a b : Tree) → Reads written a → Reads written b → a ≡ b
one_tree written a b first second = one_reading (chars (text_of_predicate written.text)) a b first second

-- a text that is refused is no predicate
pub no_tree : (written : Name) (text : List ℕ) (place at : Place) (fault : PredicateFault) → text ≡ text_of_predicate written.text
    → fault ≡ Unknown at → IsReading (chars text) place (Err fault) → (tree : Tree) → Reads written tree → ⊥
no_tree written text place at fault same is told tree reads =
    let none : IsReading (chars text) place (Err (Unknown at)) =
    subst (λ (f : PredicateFault). IsReading (chars text) place (Err f)) is told in
    none.1 tree (subst (λ (t : List ℕ). IsPredicate (chars t) tree) (sym same) reads)

module _ (is_rule : List ℕ → Bool) (written : Name) where
  -- the first rule of a predicate's tree that is not there
  pub missing_of : (tree : Tree) (rules : List (List ℕ)) (found : Option (List ℕ)) → Reads written tree → rules ≡ rules_of tree
      → FindsFirst (IsMissing is_rule) rules found → Finds (NamesMissing is_rule) written found
  missing_of tree rules None reads is none =
      λ n other. not_both (IsMissing is_rule) (rules_of tree) n
      (subst (λ (names : List (List ℕ)). IsNone (IsMissing is_rule) names) is none)
      (subst (λ (t : Tree). IsFirst (IsMissing is_rule) (rules_of t) n) (one_tree written other.tree tree other.reads reads) other.missing)
  missing_of tree rules (Some n) reads is first =
      record { tree = tree; reads = reads; missing = subst (λ (names : List (List ℕ)). IsFirst (IsMissing is_rule) names n) is first }

  -- it is one
  pub one_missing : (b c : List ℕ) → NamesMissing is_rule written b → NamesMissing is_rule written c → b ≡ c
  one_missing b c h k =
      one_first (IsMissing is_rule) (λ name x y p q. p.0 ∙ sym q.0) (rules_of k.tree) b c
      (subst (λ (t : Tree). IsFirst (IsMissing is_rule) (rules_of t) b) (one_tree written h.tree k.tree h.reads k.reads) h.missing)
      k.missing
