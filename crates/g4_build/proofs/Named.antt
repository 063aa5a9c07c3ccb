-- The rule of a name.
use Rattle.std.proofs.Common.{◌≡◌, ℕ, suc, ◌+◌, ◌<◌, List, [], ◌∷◌, length, Bool, true, false, cond, not, nat_lt, ◌||◌, refl, ◌∙◌, ap, arith, Some, None}
use Rattle.std.specs.List.{list_any, position, position_or_len}
use Rattle.std.specs.Str.{bytes_eq}
use borrow.Author.Tests.{ltb-true}
use Rattle.std.proofs.lemmas.Bool.Decides.{nat_tests}
use Rattle.g4_grammar.specs.StepRules.{StepRule}
use Rattle.g4_layout.specs.Rules.{has_parser_rule, rule_number}

-- a test that some item passes finds the first
found : {X : Type 0} (p : X → Bool) (xs : List X) → list_any p xs ≡ nat_lt (position_or_len p xs) (length xs)
found p [] = refl
found p (x ∷ xs) = at (p x) (found p xs)
  where
    at : (b : Bool) → list_any p xs ≡ nat_lt (position_or_len p xs) (length xs)
        → (b || list_any p xs) ≡ nat_lt (cond (not b) (1 + position_or_len p xs) 0) (suc (length xs))
    at true h = grind (arith, nat_tests)
    at false h = h ∙ grind (arith, nat_tests)

-- no place, no rule of the name
pub unknown : (rules : List StepRule) (start : List ℕ) → position (λ rule. bytes_eq rule.name start) rules ≡ None
    → has_parser_rule rules start ≡ false
unknown rules start e = found (λ rule. bytes_eq rule.name start) rules
    ∙ at _ (nat_lt (position_or_len (λ rule. bytes_eq rule.name start) rules) (length rules)) e
  where
    at : (x : ℕ) (b : Bool) → cond b (Some x) None ≡ None → b ≡ false
    at x true h = cc
    at x false h = refl

-- a place, a rule of the name
pub known_at : (rules : List StepRule) (start : List ℕ) (place : ℕ) → position (λ rule. bytes_eq rule.name start) rules ≡ Some place →
    (has_parser_rule rules start ≡ true) × (place + 1 ≡ rule_number rules start) × (place < length rules)
known_at rules start place e =
    let h = at _ (nat_lt (position_or_len (λ rule. bytes_eq rule.name start) rules) (length rules)) e in
    let less : nat_lt place (length rules) ≡ true = rw (h.1) h.0 in
    (found (λ rule. bytes_eq rule.name start) rules ∙ h.0, ap (λ (n : ℕ). n + 1) h.1, omega (arith, ltb-true _ _ less))
  where
    at : (x : ℕ) (b : Bool) → cond b (Some x) None ≡ Some place → (b ≡ true) × (place ≡ x)
    at x true h = (refl, cc)
    at x false h = cc
