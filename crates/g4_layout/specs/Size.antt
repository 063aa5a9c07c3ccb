-- How many states the table of forms makes, but for the state where an element begins.
use Rattle.std.specs.Prelude.{ℕ, ◌+◌}
use Rattle.g4_source.specs.declared.element.Repeat.TheVariants.{Once, Optional, Star, Plus}
use Rattle.g4_source.specs.Elements.{Element, atom, block, Elements, empty, then, Alternatives, none, or}

-- the state where a block of several alternatives ends
abbrev pub more_if_several : {A : Type 0} → Alternatives A → ℕ
more_if_several none = 0
more_if_several (or x none) = 0
more_if_several (or x (or y more)) = 1

abbrev mutual
  -- the states of an element, where an atom makes as many as its weight: the one where it ends, and those in between
  pub states_by : {A : Type 0} → (A → ℕ) → Element A → ℕ
  states_by weight (atom a) = weight a
  states_by weight (block label Once xs) = states_of_rule_by weight xs + more_if_several xs
  states_by weight (block label (Optional sign) xs) = states_of_bodies_by weight xs + 2
  states_by weight (block label (Star sign) xs) = states_of_bodies_by weight xs + 1
  states_by weight (block label (Plus sign) xs) = states_of_bodies_by weight xs + 2

  -- the states of elements one after another
  pub states_in_order_by : {A : Type 0} → (A → ℕ) → Elements A → ℕ
  states_in_order_by weight empty = 0
  states_in_order_by weight (then x xs) = states_by weight x + states_in_order_by weight xs

  -- the states of bodies side by side: of each its first, and those of its elements
  pub states_of_bodies_by : {A : Type 0} → (A → ℕ) → Alternatives A → ℕ
  states_of_bodies_by weight none = 0
  states_of_bodies_by weight (or x xs) = 1 + states_in_order_by weight x + states_of_bodies_by weight xs

  -- the states of a rule's alternatives but for its start and end: one begins at the start, several are bodies
  pub states_of_rule_by : {A : Type 0} → (A → ℕ) → Alternatives A → ℕ
  states_of_rule_by weight none = 0
  states_of_rule_by weight (or x none) = states_in_order_by weight x
  states_of_rule_by weight (or x (or y more)) = 1 + states_in_order_by weight x + states_of_bodies_by weight (or y more)

-- an atom that is one step makes one state
abbrev pub one_state : {A : Type 0} → A → ℕ
one_state a = 1

-- the states of an element whose atoms are steps
abbrev pub states_of : {A : Type 0} → Element A → ℕ
states_of x = states_by one_state x

-- the states of such elements one after another
abbrev pub states_in_order : {A : Type 0} → Elements A → ℕ
states_in_order xs = states_in_order_by one_state xs

-- the states of such bodies side by side
abbrev pub states_of_bodies : {A : Type 0} → Alternatives A → ℕ
states_of_bodies xs = states_of_bodies_by one_state xs

-- the states of such alternatives of a rule
abbrev pub states_of_rule : {A : Type 0} → Alternatives A → ℕ
states_of_rule xs = states_of_rule_by one_state xs
