-- The rules as they are written and as they are laid, by their numbers.
use Rattle.std.proofs.Common.{◌≡◌, ◌⊎◌, ℕ, zero, suc, ◌+◌, List, [], ◌∷◌, Option, Some, None, map, inl, inr, refl, ap, ◌∙◌, arith, slice_get}
use Rattle.std.specs.List.{enumerate_from, position_or_len}
use Rattle.std.specs.Str.{bytes_eq}
use Rattle.g4_source.specs.Elements.{Alternatives}
use Rattle.g4_source.specs.Rules.{alternatives_of}
use Rattle.g4_grammar.specs.StepRules.{StepRule}
use Rattle.g4_layout.specs.Rules.{rule_number}
use Rattle.g4_leftrec.specs.Rewriting.{StepIn, formed, rewritten}

-- the alternatives of the rules as they are written, and as they are laid, these first
abbrev pub written_rules : Alternatives StepIn → List StepRule → List (Alternatives StepIn)
written_rules first rules = first ∷ map alternatives_of rules

abbrev pub laid_rules : Alternatives StepIn → List StepRule → List (Alternatives StepIn)
laid_rules first rules = first ∷ map alternatives_of (rewritten rules)

-- Rule k is one of these as it is written, and the same as it is laid.
pub record IsRule (k : ℕ) (written laid : Option (Alternatives StepIn)) : Type 0 where
  pub rule : StepRule
  pub as_written : written ≡ Some (alternatives_of rule)
  pub as_laid : laid ≡ Some (alternatives_of (formed (k, rule)))

-- both are at an index, or none is, where the rules count from n
at_index : (n i : ℕ) (rules : List StepRule) → ((slice_get (map alternatives_of rules) i ≡ None)
    × (slice_get (map alternatives_of (map formed (enumerate_from n rules))) i ≡ None))
    ⊎ IsRule (n + i) (slice_get (map alternatives_of rules) i) (slice_get (map alternatives_of (map formed (enumerate_from n rules))) i)
at_index n i [] = inl (refl, refl)
at_index n zero (rule ∷ rules) =
    let same : n ≡ n + 0 = omega arith in
    inr (record { rule = rule; as_written = refl; as_laid = ap (λ (m : ℕ). Some (alternatives_of (formed (m, rule)))) same })
at_index n (suc i) (rule ∷ rules) =
    let same : n + 1 + i ≡ n + suc i = omega arith in
    elim (at_index (n + 1) i rules) [
      | inl missing ↦ inl missing
      | inr found ↦ inr (record {
        rule = found.rule;
        as_written = found.as_written;
        as_laid = found.as_laid ∙ ap (λ (m : ℕ). Some (alternatives_of (formed (m, found.rule)))) same;
      })
    ]

-- the same by the number, but for rule 0, which is one of neither
pub at_number : (first : Alternatives StepIn) (i : ℕ) (rules : List StepRule) →
    ((slice_get (written_rules first rules) (suc i) ≡ None) × (slice_get (laid_rules first rules) (suc i) ≡ None))
    ⊎ IsRule (suc i) (slice_get (written_rules first rules) (suc i)) (slice_get (laid_rules first rules) (suc i))
at_number first i rules =
    let same : 1 + i ≡ suc i = omega arith in
    elim (at_index 1 i rules) [
      | inl missing ↦ inl missing
      | inr found ↦ inr (record {
        rule = found.rule;
        as_written = found.as_written;
        as_laid = found.as_laid ∙ ap (λ (m : ℕ). Some (alternatives_of (formed (m, found.rule)))) same;
      })
    ]

-- a rule has the same place by its name
same_place : (n : ℕ) (rules : List StepRule) (name : List ℕ)
    → position_or_len (λ rule. bytes_eq rule.name name) (map formed (enumerate_from n rules))
    ≡ position_or_len (λ rule. bytes_eq rule.name name) rules
same_place n [] name = refl
same_place n (rule ∷ rules) name = rw (same_place (n + 1) rules name) refl

-- so it has the same number
pub same_number : (rules : List StepRule) (name : List ℕ) → rule_number (rewritten rules) name ≡ rule_number rules name
same_number rules name = ap (λ (i : ℕ). i + 1) (same_place 1 rules name)
