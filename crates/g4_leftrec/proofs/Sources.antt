-- Where primaries and operators come from.
use Rattle.std.proofs.Common.{◌≡◌, ◌⊎◌, ℕ, ◌+◌, List, [], ◌∷◌, Bool, true, false, ◌||◌, Option, Some, None, length, map, inl, inr, refl, sym, ap, ◌∙◌, subst, arith}
use Rattle.std.specs.List.{cons_option, enumerate_from, filter_map}
use Rattle.std.proofs.lemmas.Bool.{cases_Bool}
use Rattle.std.proofs.lemmas.Bool.Decides.{nat_tests}
use Rattle.std.proofs.lemmas.Option.{cond_some}
use Rattle.g4_source.specs.Elements.{atom, block, Elements, empty, then, Alternatives, or, only, either}
use Rattle.g4_source.specs.Rules.{alternatives_of}
use Rattle.g4_grammar.specs.declared.step.Step.TheVariants.{Edge, Call, Predicate, Level, Action, Empty}
use Rattle.g4_grammar.specs.OwnCalls.{IsOneOf, IsOperator, LacksPrimary}
use Rattle.g4_grammar.specs.StepRules.{StepRule}
use Rattle.g4_grammar.specs.Steps.{CallsRule}
use Rattle.g4_leftrec.specs.OwnCalls.{Part, after_self, is_left_recursive, is_some, operator_of, operator_with, primaries, primary_of, primary_with}
use Rattle.g4_leftrec.specs.OwnSteps.{calls}
use Rattle.g4_leftrec.specs.Rewriting.{StepIn, Written, formed, loop_of, operand_level, operator_form, operator_forms, precedence, primary_form, primary_forms, with_last_at}
use Rattle.g4_leftrec.proofs.OtherLevel.{DiffersInLevel, last_differs}

-- the alternatives as trees
abbrev pub bodies : List Written → Alternatives StepIn
bodies xs = either (map (λ (a : Written). a.elements) xs)

-- the elements are a primary of rule k, made of one of these alternatives
pub record IsPrimaryOf (k : ℕ) (xs : Alternatives StepIn) (y : Elements StepIn) : Type 0 where
  pub written : Elements StepIn
  pub among : IsOneOf xs written
  pub apart : after_self (calls k) written ≡ None
  pub differs : DiffersInLevel k written y

-- the elements are an operator
pub record IsOperatorOf (k : ℕ) (xs : Alternatives StepIn) (y : Elements StepIn) : Type 0 where
  pub level : ℕ
  pub written : Elements StepIn
  pub rest : Elements StepIn
  pub changed : Elements StepIn
  pub among : IsOneOf xs written
  pub begins : after_self (calls k) written ≡ Some rest
  pub differs : DiffersInLevel k rest changed
  pub is : y ≡ then (atom (Level level)) changed

-- a step that calls rule k by the test, calls it
pub own_step : (k : ℕ) (a : StepIn) → calls k a ≡ true → CallsRule a k
own_step k (Edge label) h = absurd (cc)
own_step k (Call rule level) h = grind (arith, nat_tests)
own_step k (Predicate n) h = absurd (cc)
own_step k (Level q) h = absurd (cc)
own_step k Action h = absurd (cc)
own_step k Empty h = absurd (cc)

-- and back
pub step_own : (k : ℕ) (a : StepIn) → CallsRule a k → calls k a ≡ true
step_own k (Edge label) h = absurd h
step_own k (Call rule level) h = grind (arith, nat_tests)
step_own k (Predicate n) h = absurd h
step_own k (Level q) h = absurd h
step_own k Action h = absurd h
step_own k Empty h = absurd h

-- an alternative that begins with the rule itself is an operator
pub operator_here : (k : ℕ) (x rest : Elements StepIn) → after_self (calls k) x ≡ Some rest → IsOperator CallsRule k x rest
operator_here k empty rest h = absurd (cc)
operator_here k (then (atom a) xs) rest h = let parts = cond_some (calls k a) xs rest h in (own_step k a parts.0, sym parts.1)
operator_here k (then (block label repeat ys) xs) rest h = absurd (cc)

module _ (k n : ℕ) where
  -- a primary in front, if it is one
  primary_front : (number : ℕ) (a : Written) (o : Option (Elements StepIn)) (kept : List (Part StepIn)) (others : Alternatives StepIn)
      (y : Elements StepIn) → after_self (calls k) a.elements ≡ o
      → (IsOneOf (either (map (primary_form k n) kept)) y → IsPrimaryOf k others y) →
      IsOneOf (either (map (primary_form k n) (cons_option (primary_with (calls k) number a.right a.elements o) kept))) y
      → IsPrimaryOf k (or a.elements others) y
  primary_front number a None kept others y is more (inl same) = record {
    written = a.elements;
    among = inl refl;
    apart = is;
    differs = subst (DiffersInLevel k a.elements) (sym same) (last_differs k (precedence n number) a.elements);
  }
  primary_front number a None kept others y is more (inr h) = let p = more h in
      record { written = p.written; among = inr p.among; apart = p.apart; differs = p.differs }
  primary_front number a (Some rest) kept others y is more h = let p = more h in
      record { written = p.written; among = inr p.among; apart = p.apart; differs = p.differs }

  -- each primary, the alternatives counting from this number
  primary_from : (number : ℕ) (xs : List Written) (y : Elements StepIn)
      → IsOneOf (either (map (primary_form k n) (filter_map (primary_of (calls k)) (enumerate_from number xs)))) y
      → IsPrimaryOf k (bodies xs) y
  primary_from number [] y h = absurd h
  primary_from number (a ∷ xs) y h =
      primary_front number a (after_self (calls k) a.elements) (filter_map (primary_of (calls k)) (enumerate_from (number + 1) xs))
      (bodies xs) y refl (primary_from (number + 1) xs y) h

  -- an operator in front, if it is one
  operator_front : (number : ℕ) (a : Written) (o : Option (Elements StepIn)) (kept : List (Part StepIn))
      (others : Alternatives StepIn) (y : Elements StepIn) → after_self (calls k) a.elements ≡ o
      → (IsOneOf (either (map (operator_form k n) kept)) y → IsOperatorOf k others y) →
      IsOneOf (either (map (operator_form k n) (cons_option (operator_with (calls k) number a.right o) kept))) y
      → IsOperatorOf k (or a.elements others) y
  operator_front number a None kept others y is more h = let p = more h in
      record {
        level = p.level;
        written = p.written;
        rest = p.rest;
        changed = p.changed;
        among = inr p.among;
        begins = p.begins;
        differs = p.differs;
        is = p.is;
      }
  operator_front number a (Some rest) kept others y is more (inl same) =
      let q : ℕ = operand_level (precedence n number) a.right in
      record {
        level = precedence n number;
        written = a.elements;
        rest = rest;
        changed = with_last_at k q rest;
        among = inl refl;
        begins = is;
        differs = last_differs k q rest;
        is = same;
      }
  operator_front number a (Some rest) kept others y is more (inr h) = let p = more h in
      record {
        level = p.level;
        written = p.written;
        rest = p.rest;
        changed = p.changed;
        among = inr p.among;
        begins = p.begins;
        differs = p.differs;
        is = p.is;
      }

  -- each operator
  operator_from : (number : ℕ) (xs : List Written) (y : Elements StepIn)
      → IsOneOf (either (map (operator_form k n) (filter_map (operator_of (calls k)) (enumerate_from number xs)))) y
      → IsOperatorOf k (bodies xs) y
  operator_from number [] y h = absurd h
  operator_from number (a ∷ xs) y h =
      operator_front number a (after_self (calls k) a.elements) (filter_map (operator_of (calls k)) (enumerate_from (number + 1) xs))
      (bodies xs) y refl (operator_from (number + 1) xs y) h

module _ (k : ℕ) where
  -- each primary of a rule is made of an alternative that does not begin with the rule itself
  pub primary_source : (xs : List Written) (y : Elements StepIn) → IsOneOf (either (primary_forms k xs)) y → IsPrimaryOf k (bodies xs) y
  primary_source xs y h = primary_from k (length xs) 1 xs y h

  -- and each operator of one that does
  pub operator_source : (xs : List Written) (y : Elements StepIn) → IsOneOf (either (operator_forms k xs)) y → IsOperatorOf k (bodies xs) y
  operator_source xs y h = operator_from k (length xs) 1 xs y h

  -- without a primary each alternative begins with the rule itself
  none_kept : (number : ℕ) (a : Written) (o : Option (Elements StepIn)) (kept : List (Part StepIn))
      → cons_option (primary_with (calls k) number a.right a.elements o) kept ≡ []
      → (rest : Elements StepIn) × (o ≡ Some rest) × (kept ≡ [])
  none_kept number a None kept h = absurd (cc)
  none_kept number a (Some rest) kept h = (rest, refl, h)

  -- the same of each of the alternatives
  all_operators : (number : ℕ) (xs : List Written) → filter_map (primary_of (calls k)) (enumerate_from number xs) ≡ []
      → (x : Elements StepIn) → IsOneOf (bodies xs) x → (rest : Elements StepIn) × IsOperator CallsRule k x rest
  all_operators number [] h x among = absurd among
  all_operators number (a ∷ xs) h x (inl same) =
      let found = none_kept number a (after_self (calls k) a.elements)
      (filter_map (primary_of (calls k)) (enumerate_from (number + 1) xs)) h in
      (found.0, operator_here k x found.0 (ap (after_self (calls k)) same ∙ found.1))
  all_operators number (a ∷ xs) h x (inr among) =
      let found = none_kept number a (after_self (calls k) a.elements)
      (filter_map (primary_of (calls k)) (enumerate_from (number + 1) xs)) h in
      all_operators (number + 1) xs found.2 x among

  -- a left-recursive rule has an alternative that begins with the rule itself
  some_here : (a : Written) (o : Option (Elements StepIn)) (any : Bool) (others : Alternatives StepIn)
      → after_self (calls k) a.elements ≡ o → (any ≡ true
      → (x rest : Elements StepIn) × IsOneOf others x × IsOperator CallsRule k x rest) → (is_some o || any) ≡ true →
      (x rest : Elements StepIn) × IsOneOf (or a.elements others) x × IsOperator CallsRule k x rest
  some_here a None any others is more h = let found = more h in (found.0, found.1, inr found.2, found.3)
  some_here a (Some rest) any others is more h = (a.elements, rest, inl refl, operator_here k a.elements rest is)

  -- the same of the alternatives of the rule
  some_operator : (xs : List Written) → is_left_recursive (calls k) xs ≡ true
      → (x rest : Elements StepIn) × IsOneOf (bodies xs) x × IsOperator CallsRule k x rest
  some_operator [] h = absurd (cc)
  some_operator (a ∷ xs) h = some_here a (after_self (calls k) a.elements) (is_left_recursive (calls k) xs) (bodies xs) refl
      (some_operator xs) h

  -- a left-recursive rule without a primary lacks one
  pub lacks_primary : (xs : List Written) → is_left_recursive (calls k) xs ≡ true → primaries (calls k) xs ≡ []
      → LacksPrimary CallsRule k (bodies xs)
  lacks_primary xs recursive h = record { some = some_operator xs recursive; each = all_operators 1 xs h }

  -- no alternative of another rule begins with the rule itself
  none_front : (o : Option (Elements StepIn)) (any : Bool) → (is_some o || any) ≡ false → (o ≡ None) × (any ≡ false)
  none_front None any h = (refl, h)
  none_front (Some rest) any h = absurd (cc)

  pub none_begins : (xs : List Written) → is_left_recursive (calls k) xs ≡ false → (x : Elements StepIn) → IsOneOf (bodies xs) x
      → after_self (calls k) x ≡ None
  none_begins [] h x among = absurd among
  none_begins (a ∷ xs) h x (inl same) = ap (after_self (calls k)) same
      ∙ (none_front (after_self (calls k) a.elements) (is_left_recursive (calls k) xs) h).0
  none_begins (a ∷ xs) h x (inr among) = none_begins xs
      (none_front (after_self (calls k) a.elements) (is_left_recursive (calls k) xs) h).1 x among

  -- a rule stays as it is written, or it becomes a loop
  pub formed_cases : (rule : StepRule) → ((is_left_recursive (calls k) rule.alternatives ≡ false)
      × (alternatives_of (formed (k, rule)) ≡ alternatives_of rule))
      ⊎ ((is_left_recursive (calls k) rule.alternatives ≡ true) × (alternatives_of (formed (k, rule)) ≡ only (loop_of k rule.alternatives)))
  formed_cases rule = elim (cases_Bool (is_left_recursive (calls k) rule.alternatives)) [
    | inl recursive ↦ inr (recursive, rw recursive)
    | inr plain ↦ inl (plain, rw plain)
  ]
