-- Rules as they are laid, by their numbers.
use Rattle.std.proofs.Common.{◌≡◌, ◌⊎◌, ℕ, zero, suc, ◌+◌, List, [], ◌∷◌, Some, map, inl, inr, refl, sym, ap, ◌∙◌, slice_get, arith}
use Rattle.std.specs.List.{All, enumerate_from}
use Rattle.std.proofs.lemmas.List.Elements.{All-nil, All-cons, All-head, All-tail}
use Rattle.std.proofs.lemmas.Option.{same_Some}
use Rattle.g4_source.specs.Elements.{Alternatives, none}
use Rattle.g4_source.specs.Rules.{alternatives_of}
use Rattle.g4_grammar.specs.StepRules.{StepRule, by_number}
use Rattle.g4_leftrec.specs.Rewriting.{StepIn, formed, rewritten}

-- these alternatives are a rule as it is laid, whose number is k
pub record IsLaidAs (rules : List StepRule) (k : ℕ) (ys : Alternatives StepIn) : Type 0 where
  pub rule : StepRule
  pub at : slice_get (by_number rules) k ≡ Some (alternatives_of rule)
  pub is : ys ≡ alternatives_of (formed (k, rule))

-- the alternatives at an index
pub at_index : (rules : List StepRule) (i : ℕ) (rule : StepRule) → slice_get rules i ≡ Some rule
    → slice_get (map alternatives_of rules) i ≡ Some (alternatives_of rule)
at_index [] i rule h = absurd (cc)
at_index (other ∷ rules) zero rule h = ap (λ (r : StepRule). Some (alternatives_of r)) (same_Some other rule h)
at_index (other ∷ rules) (suc i) rule h = at_index rules i rule h

-- the same by the number, which counts from 1
pub at_number : (rules : List StepRule) (i : ℕ) (rule : StepRule) → slice_get rules i ≡ Some rule
    → slice_get (by_number rules) (1 + i) ≡ Some (alternatives_of rule)
at_number rules i rule h = let next : 1 + i ≡ suc i = omega arith in ap (slice_get (by_number rules)) next ∙ at_index rules i rule h

-- the rule at an index as it is laid
laid_at : (n i : ℕ) (rules : List StepRule) (ys : Alternatives StepIn)
    → slice_get (map alternatives_of (map formed (enumerate_from n rules))) i ≡ Some ys
    → (rule : StepRule) × (slice_get rules i ≡ Some rule) × (ys ≡ alternatives_of (formed (n + i, rule)))
laid_at n i [] ys h = absurd (cc)
laid_at n zero (rule ∷ rules) ys h =
    let same : n ≡ n + 0 = omega arith in
    (rule, refl, sym (same_Some (alternatives_of (formed (n, rule))) ys h) ∙ ap (λ (m : ℕ). alternatives_of (formed (m, rule))) same)
laid_at n (suc i) (rule ∷ rules) ys h =
    let found = laid_at (n + 1) i rules ys h in
    let same : n + 1 + i ≡ n + suc i = omega arith in
    (found.0, found.1, found.2 ∙ ap (λ (m : ℕ). alternatives_of (formed (m, found.0))) same)

-- a rule by its number is the added one, or laid as one of these rules
pub laid_cases : (rules : List StepRule) (k : ℕ) (ys : Alternatives StepIn) → slice_get (by_number (rewritten rules)) k ≡ Some ys
    → (ys ≡ none) ⊎ IsLaidAs rules k ys
laid_cases rules zero ys h = inl (sym (same_Some none ys h))
laid_cases rules (suc i) ys h =
    let found = laid_at 1 i rules ys h in
    let same : 1 + i ≡ suc i = omega arith in
    inr (record {
      rule = found.0;
      at = at_index rules i found.0 found.1;
      is = found.2 ∙ ap (λ (m : ℕ). alternatives_of (formed (m, found.0))) same;
    })

-- what holds of each rule, holds of each as it is laid
pub all_formed : (P Q : StepRule → Type 0) → ((k : ℕ) (rule : StepRule) → P rule → Q (formed (k, rule)))
    → (n : ℕ) (rules : List StepRule) → All P rules → All Q (map formed (enumerate_from n rules))
all_formed P Q f n [] h = All-nil Q
all_formed P Q f n (rule ∷ rules) h = All-cons Q (formed (n, rule)) (map formed (enumerate_from (n + 1) rules))
    (f n rule (All-head P rule rules h)) (all_formed P Q f (n + 1) rules (All-tail P rule rules h))
