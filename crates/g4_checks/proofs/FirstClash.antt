-- The clash of a rule, and the labels that clash.
use Rattle.std.proofs.Common.{◌≡◌, ℕ, List, [], Bool, false, ◌||◌, Option, Some, None, MatchBool, subst, sym, ap, ◌∙◌}
use Rattle.g4_source.specs.declared.atom.Atom.{Atom}
use Rattle.g4_source.specs.declared.rule.ParserRule.{ParserRule}
use Rattle.g4_source.specs.First.{Finds, FindsFirst, IsFirst}
use Rattle.g4_checks.specs.Known.{AddsAll}
use Rattle.g4_checks.specs.Labels.{HasClash, IsClash, are_partly_labelled, capitalised_names, clashes, is_in_two, labels_of}
use Rattle.g4_checks.specs.Names.{is_one_of}
use Rattle.g4_source.proofs.OneFirst.{not_both}

-- where no rule is partly labelled, its clash is its first label that clashes
pub clash_of_labels : (does_clash : List ℕ → Bool) (rule : ParserRule Atom) (found : Option (List ℕ))
    → are_partly_labelled rule.alternatives ≡ false → FindsFirst (IsClash does_clash) (labels_of rule) found
    → Finds (HasClash does_clash) rule found
clash_of_labels does_clash rule None whole none =
    λ n clash. not_both (IsClash does_clash) (labels_of rule) n none
    (subst (λ (partly : Bool). MatchBool partly (n ≡ rule.name) (IsFirst (IsClash does_clash) (labels_of rule) n)) whole clash)
clash_of_labels does_clash rule (Some n) whole first =
    subst (λ (partly : Bool). MatchBool partly (n ≡ rule.name) (IsFirst (IsClash does_clash) (labels_of rule) n)) (sym whole) first

-- the labels that clash are those of two rules and the names in upper case
pub clash_test : (rules : List (ParserRule Atom)) (repeated empty capitals upper : List (List ℕ))
    → ((n : List ℕ) → is_one_of repeated n ≡ is_in_two rules n) → empty ≡ [] → capitals ≡ capitalised_names rules
    → AddsAll empty capitals upper → (n : List ℕ) → (is_one_of repeated n || is_one_of upper n) ≡ clashes rules n
clash_test rules repeated empty capitals upper again none all added n =
    ap (λ (b : Bool). b || is_one_of upper n) (again n)
    ∙ ap (λ (b : Bool). is_in_two rules n || b)
    (added n ∙ (ap (λ (names : List (List ℕ)). is_one_of names n || is_one_of capitals n) none
    ∙ ap (λ (names : List (List ℕ)). is_one_of names n) all))
