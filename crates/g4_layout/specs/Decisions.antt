-- The decisions that the table of forms makes of rules, and how many alternatives they have, the exit branch counted.
-- That of the added rule has two.
use Rattle.std.specs.Prelude.{◌≡◌, ◌≤◌, ◌<◌, ◌⊎◌, ℕ, ◌+◌, List, [], ◌∷◌}
use Rattle.g4_source.specs.declared.element.Repeat.{Repeat}
use Rattle.g4_source.specs.declared.element.Repeat.TheVariants.{Once, Optional, Star, Plus}
use Rattle.g4_source.specs.Elements.{Element, atom, block, Elements, empty, then, Alternatives, none, or}

-- how many alternatives there are
abbrev pub number_of : {A : Type 0} → Alternatives A → ℕ
number_of none = 0
number_of (or x xs) = number_of xs + 1

-- several alternatives are a decision of as many
abbrev pub IsChoice : {A : Type 0} → Alternatives A → ℕ → Type 0
IsChoice xs n = (2 ≤ number_of xs) × (n ≡ number_of xs)

-- a decision between these alternatives and the exit branch
abbrev pub IsChoiceOrLeave : {A : Type 0} → Alternatives A → ℕ → Type 0
IsChoiceOrLeave xs n = n ≡ number_of xs + 1

abbrev mutual
  -- the element has a decision of n alternatives, its own or one inside
  pub HasDecision : {A : Type 0} → Element A → ℕ → Type 0
  HasDecision (atom a) n = ⊥
  HasDecision (block label Once xs) n = IsChoice xs n ⊎ SomeHasDecision xs n
  HasDecision (block label (Optional sign) xs) n = IsChoiceOrLeave xs n ⊎ SomeHasDecision xs n
  HasDecision (block label (Star sign) xs) n = IsChoiceOrLeave xs n ⊎ SomeHasDecision xs n
  HasDecision (block label (Plus sign) xs) n = IsChoice xs n ⊎ (IsChoiceOrLeave xs n ⊎ SomeHasDecision xs n)

  -- one of the elements has
  pub OneHasDecision : {A : Type 0} → Elements A → ℕ → Type 0
  OneHasDecision empty n = ⊥
  OneHasDecision (then x xs) n = HasDecision x n ⊎ OneHasDecision xs n

  -- one of the alternatives has one inside
  pub SomeHasDecision : {A : Type 0} → Alternatives A → ℕ → Type 0
  SomeHasDecision none n = ⊥
  SomeHasDecision (or x xs) n = OneHasDecision x n ⊎ SomeHasDecision xs n

-- the rule has: several alternatives of it are a decision
abbrev pub RuleHasDecision : {A : Type 0} → Alternatives A → ℕ → Type 0
RuleHasDecision xs n = IsChoice xs n ⊎ SomeHasDecision xs n

-- one of the rules has
abbrev pub RulesHaveDecision : {A : Type 0} → List (Alternatives A) → ℕ → Type 0
RulesHaveDecision [] n = ⊥
RulesHaveDecision (rule ∷ rules) n = RuleHasDecision rule n ⊎ RulesHaveDecision rules n

-- the most alternatives of a decision, the exit branch counted
abbrev pub most_alternatives : ℕ
most_alternatives = 1024

-- one of these decisions has too many alternatives
abbrev pub IsWide : (ℕ → Type 0) → Type 0
IsWide HasOne = (n : ℕ) × HasOne n × (most_alternatives < n)

-- some decision of some rule has too many alternatives
abbrev pub IsTooWide : {A : Type 0} → List (Alternatives A) → Type 0
IsTooWide rules = IsWide (RulesHaveDecision rules)

-- no decision of the rules has too many alternatives
abbrev pub AreNarrow : {A : Type 0} → List (Alternatives A) → Type 0
AreNarrow rules = (n : ℕ) → RulesHaveDecision rules n → n ≤ most_alternatives

-- in how many ways a decision over the bodies of a block with this sign can leave it
abbrev pub ways_to_exit : Repeat → ℕ
ways_to_exit Once = 0
ways_to_exit (Optional sign) = 1
ways_to_exit (Star sign) = 1
ways_to_exit (Plus sign) = 1
