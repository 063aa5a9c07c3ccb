-- The primaries and the operators of a rule.
use Rattle.std.proofs.Common.{◌≡◌, ℕ, ◌+◌, ◌<◌, List, [], ◌∷◌, Bool, true, ◌||◌, Option, Some, None, length, refl, arith}
use Rattle.std.specs.List.{cons_option, enumerate_from, filter_map}
use Rattle.g4_source.specs.Elements.{Elements}
use Rattle.g4_source.specs.declared.rule.RuleAlternative.{RuleAlternative}
use Rattle.g4_leftrec.specs.OwnCalls.{Part, after_self, is_left_recursive, is_some, operator_of, operator_with, operators, primaries, primary_of, primary_with}

module _ {A : Type 0} (is_self : A → Bool) where
  -- an alternative in front, by what follows the rule itself
  some_front : (number : ℕ) (right : Bool) (o : Option (Elements A)) (any : Bool) (kept : List (Part A))
      → (any ≡ true → 0 < length kept) → (is_some o || any) ≡ true → 0 < length (cons_option (operator_with is_self number right o) kept)
  some_front number right None any kept before h = before h
  some_front number right (Some rest) any kept before h = omega arith

  -- an alternative that begins with the rule itself is an operator
  some_operator : (number : ℕ) (xs : List (RuleAlternative A)) → is_left_recursive is_self xs ≡ true
      → 0 < length (filter_map (operator_of is_self) (enumerate_from number xs))
  some_operator number [] h = absurd (cc)
  some_operator number (x ∷ xs) h =
      some_front number x.right (after_self is_self x.elements) (is_left_recursive is_self xs)
      (filter_map (operator_of is_self) (enumerate_from (number + 1) xs)) (some_operator (number + 1) xs) h

  any_front : (number : ℕ) (right : Bool) (o : Option (Elements A)) (any : Bool) (kept : List (Part A))
      → (0 < length kept → any ≡ true) → 0 < length (cons_option (operator_with is_self number right o) kept) → (is_some o || any) ≡ true
  any_front number right None any kept before h = before h
  any_front number right (Some rest) any kept before h = refl

  -- an operator is an alternative that begins with the rule itself
  from_operator : (number : ℕ) (xs : List (RuleAlternative A))
      → 0 < length (filter_map (operator_of is_self) (enumerate_from number xs)) → is_left_recursive is_self xs ≡ true
  from_operator number [] h = absurd (omega arith)
  from_operator number (x ∷ xs) h =
      any_front number x.right (after_self is_self x.elements) (is_left_recursive is_self xs)
      (filter_map (operator_of is_self) (enumerate_from (number + 1) xs)) (from_operator (number + 1) xs) h

  -- a left-recursive rule has an operator, and no other rule has any
  pub operators_recursive : (xs : List (RuleAlternative A))
      → (is_left_recursive is_self xs ≡ true → 0 < length (operators is_self xs))
      × (0 < length (operators is_self xs) → is_left_recursive is_self xs ≡ true)
  operators_recursive xs = (some_operator 1 xs, from_operator 1 xs)

  one_front : (number : ℕ) (right : Bool) (body : Elements A) (o : Option (Elements A)) (kept others : List (Part A)) (n : ℕ)
      → length kept + length others ≡ n → length (cons_option (primary_with is_self number right body o) kept)
      + length (cons_option (operator_with is_self number right o) others) ≡ n + 1
  one_front number right body None kept others n h = omega arith
  one_front number right body (Some rest) kept others n h = omega arith

  both : (number : ℕ) (xs : List (RuleAlternative A))
      → length (filter_map (primary_of is_self) (enumerate_from number xs))
      + length (filter_map (operator_of is_self) (enumerate_from number xs)) ≡ length xs
  both number [] = refl
  both number (x ∷ xs) =
      let all : _ = one_front number x.right x.elements (after_self is_self x.elements)
      (filter_map (primary_of is_self) (enumerate_from (number + 1) xs))
      (filter_map (operator_of is_self) (enumerate_from (number + 1) xs)) (length xs) (both (number + 1) xs) in
      omega (arith, all)

  -- each alternative is a primary or an operator
  pub primaries_and_operators : (xs : List (RuleAlternative A)) → length (primaries is_self xs) + length (operators is_self xs) ≡ length xs
  primaries_and_operators xs = both 1 xs
