-- Alternatives that begin or end with a plain reference to their own rule, over any atoms: primaries and operators.
use Rattle.std.specs.Prelude.{ℕ, List, Bool, true, false, ◌&&◌, cond, Option, Some, None}
use Rattle.std.specs.List.{enumerate_from, filter_map, list_any}
use Rattle.g4_source.specs.Elements.{Element, atom, block, Elements, empty, then}
use Rattle.g4_source.specs.declared.rule.RuleAlternative.{RuleAlternative}

-- an atom that is so; a block is not
abbrev pub is_atom : {A : Type 0} → (A → Bool) → Element A → Bool
is_atom is_so (atom a) = is_so a
is_atom is_so (block label repeat xs) = false

-- there is one
abbrev pub is_some : {X : Type 0} → Option X → Bool
is_some None = false
is_some (Some x) = true

-- an alternative whose last element, but for silent ones, is the rule itself: what is before that, and the silent ones after it
pub record LastSelf (A : Type 0) : Type 0 where
  pub before : Elements A
  pub trailing : Elements A

-- an alternative in parts: its number, counted from 1, whether it is right associative, and its elements without a first one
-- that is the rule itself
pub record Part (A : Type 0) : Type 0 where
  pub number : ℕ
  pub right : Bool
  pub elements : Elements A

-- the same with an element more in front
abbrev pub with_first : {A : Type 0} → Element A → Option (LastSelf A) → Option (LastSelf A)
with_first x None = None
with_first x (Some last) = Some (record { before = then x last.before; trailing = last.trailing })

module _ {A : Type 0} (is_self : A → Bool) where
  -- what follows the rule itself, where that is the first element
  abbrev pub after_self : Elements A → Option (Elements A)
  after_self empty = None
  after_self (then x xs) = cond (is_atom is_self x) (Some xs) None

  -- some alternative begins with the rule itself
  abbrev pub is_left_recursive : List (RuleAlternative A) → Bool
  is_left_recursive alternatives = list_any (λ a. is_some (after_self a.elements)) alternatives

  -- an alternative with its number, given what follows the rule itself, if it begins with it: an operator, or none
  abbrev pub operator_with : ℕ → Bool → Option (Elements A) → Option (Part A)
  operator_with number right None = None
  operator_with number right (Some rest) = Some (record { number = number; right = right; elements = rest })

  -- the same of all its elements: a primary, or none
  abbrev pub primary_with : ℕ → Bool → Elements A → Option (Elements A) → Option (Part A)
  primary_with number right xs None = Some (record { number = number; right = right; elements = xs })
  primary_with number right xs (Some rest) = None

  -- an alternative with its number, where it begins with the rule itself
  abbrev pub operator_of : ℕ × RuleAlternative A → Option (Part A)
  operator_of x = operator_with x.0 x.1.right (after_self x.1.elements)

  -- and where it does not
  abbrev pub primary_of : ℕ × RuleAlternative A → Option (Part A)
  primary_of x = primary_with x.0 x.1.right x.1.elements (after_self x.1.elements)

  -- the alternatives that begin with the rule itself: what follows it
  abbrev pub operators : List (RuleAlternative A) → List (Part A)
  operators alternatives = filter_map operator_of (enumerate_from 1 alternatives)

  -- the others
  abbrev pub primaries : List (RuleAlternative A) → List (Part A)
  primaries alternatives = filter_map primary_of (enumerate_from 1 alternatives)

module _ {A : Type 0} (is_silent : A → Bool) where
  -- silent atoms alone
  abbrev pub are_silent : Elements A → Bool
  are_silent empty = true
  are_silent (then x xs) = is_atom is_silent x && are_silent xs

module _ {A : Type 0} (is_self : A → Bool) (is_silent : A → Bool) where
  -- what is before and after the rule itself, where it is the last element but for silent ones; no atom is both
  abbrev pub before_self : Elements A → Option (LastSelf A)
  before_self empty = None
  before_self (then x xs) = cond (are_silent is_silent xs)
      (cond (is_atom is_self x) (Some (record { before = empty; trailing = xs })) None) (with_first x (before_self xs))
