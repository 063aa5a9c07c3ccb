-- States while they are made. A state where something ends is open: it is filled once it is known what follows.
use Rattle.std.specs.Prelude.{◌≡◌, ◌≢◌, ◌≤◌, ◌<◌, ◌⊎◌, ℕ, ◌+◌, List, [], ◌∷◌, ◌++◌, length, Bool, Option, None, slice_get, slice_set}
use Rattle.g4_source.specs.declared.name.Label.{Label}
use Rattle.g4_source.specs.declared.element.Repeat.{Repeat}
use Rattle.g4_source.specs.declared.element.Repeat.TheVariants.{Once, Optional, Star, Plus}
use Rattle.g4_source.specs.Elements.{Element, block, Elements, Alternatives}
use Rattle.g4_grammar.specs.declared.step.Step.{Step}
use Rattle.g4_grammar.specs.declared.step.Step.TheVariants as steps
use Rattle.g4_net.specs.declared.network.Network.{Network}
use Rattle.g4_net.specs.declared.network.State.{State}
use Rattle.g4_net.specs.declared.network.State.TheVariants.{Decision, Edge, Call, Predicate, Level, Action, Empty}
use Rattle.g4_net.specs.Network.{state_at}
use Rattle.g4_layout.specs.Layout.{with_exit, Lies, LieInOrder, LieSideBySide}
use Rattle.g4_layout.specs.Size.{states_by, states_of, states_in_order, states_of_bodies, one_state}

-- the list has the number
abbrev pub Among : List ℕ → ℕ → Type 0
Among [] p = ⊥
Among (b ∷ bs) p = (p ≡ b) ⊎ Among bs p

-- the states, each of those listed being an empty edge to t
abbrev pub linked : {L : Type 0} → ℕ → List ℕ → List (State L) → List (State L)
linked t [] states = states
linked t (b ∷ bs) states = linked t bs (slice_set states b (Empty t))

-- the old states but for s are as they were
abbrev pub Grows : {L : Type 0} → List (State L) → List (State L) → ℕ → Type 0
Grows old new s = (p : ℕ) → p < length old → p ≢ s → slice_get new p ≡ slice_get old p

-- the network has the states at s and from n on, but for t
abbrev pub Shares : {L : Type 0} → Network L → List (State L) → ℕ → ℕ → ℕ → Type 0
Shares net states s n t = (p : ℕ) → (p ≡ s) ⊎ (n ≤ p) → p < length states → p ≢ t → state_at net p ≡ slice_get states p

-- the element is laid out from s to t, its other states being new
pub record IsLaid {L : Type 0} (old new : List (State L)) (s t : ℕ) (x : Element (Step L)) : Type 0 where
  pub size : length new ≡ length old + states_of x
  pub after : (t ≡ s) ⊎ (length old ≤ t)
  pub within : t < length new
  pub grown : Grows old new s
  pub lies : (net : Network L) → Shares net new s (length old) t → Lies net x s t (length old) (length new)

-- elements one after another are laid out so
pub record AreLaid {L : Type 0} (old new : List (State L)) (s t : ℕ) (xs : Elements (Step L)) : Type 0 where
  pub size : length new ≡ length old + states_in_order xs
  pub after : (t ≡ s) ⊎ (length old ≤ t)
  pub within : t < length new
  pub grown : Grows old new s
  pub lie : (net : Network L) → Shares net new s (length old) t → LieInOrder net xs s t (length old) (length new)

-- a block of these alternatives, with this repeat, is laid out so, whatever its label is
abbrev pub BlockIsLaid : {L : Type 0} → List (State L) → List (State L) → ℕ → ℕ → Repeat → Alternatives (Step L) → Type 0
BlockIsLaid old new s t repeat xs = (label : Option Label) → IsLaid old new s t (block label repeat xs)

-- the network has the states from n on, but for the listed ones
abbrev pub SharesBut : {L : Type 0} → Network L → List (State L) → ℕ → List ℕ → Type 0
SharesBut net states n lasts = (p : ℕ) → n ≤ p → p < length states → (Among lasts p → ⊥) → state_at net p ≡ slice_get states p

-- numbers from n on and below m, each above the one before
abbrev pub IsRising : ℕ → List ℕ → ℕ → Type 0
IsRising n [] m = n ≤ m
IsRising n (p ∷ more) m = (n ≤ p) × IsRising (p + 1) more m

-- alternatives are laid out side by side from these first states to these last ones, all of them new
pub record AreBeside {L : Type 0} (old new : List (State L)) (firsts lasts : List ℕ) (xs : Alternatives (Step L)) : Type 0 where
  pub size : length new ≡ length old + states_of_bodies xs
  pub rising : IsRising (length old) firsts (length new)
  pub inside : (p : ℕ) → Among lasts p → (length old ≤ p) × (p < length new)
  pub grown : Grows old new (length old)
  pub lie : (net : Network L) → SharesBut net new (length old) lasts → LieSideBySide net xs firsts lasts (length old) (length new)

-- the state that a step makes, leading to t
abbrev pub state_of : {L : Type 0} → Step L → ℕ → State L
state_of (steps.Edge label) t = Edge label t
state_of (steps.Call rule level) t = Call rule level t
state_of (steps.Predicate k) t = Predicate k t
state_of (steps.Level q) t = Level q t
state_of steps.Action t = Action t
state_of steps.Empty t = Empty t

-- the states after one step
abbrev pub stepped : {L : Type 0} → ℕ → Step L → List (State L) → List (State L)
stepped s step states = slice_set states s (state_of step (length states)) ++ Empty 0 ∷ []

-- the states after the bodies of a block of several, which begin at these states and end at those
abbrev pub joined : {L : Type 0} → ℕ → List ℕ → List ℕ → List (State L) → List (State L)
joined s firsts lasts states = linked (length states) lasts (slice_set states s (Decision firsts)) ++ Empty 0 ∷ []

-- the states after the bodies of `?`
abbrev pub passed_by : {L : Type 0} → Bool → ℕ → List ℕ → List ℕ → List (State L) → List (State L)
passed_by greedy s firsts lasts states =
    linked (length states + 1) lasts (slice_set states s (Decision (with_exit greedy firsts (length states))))
    ++ Empty (length states + 1) ∷ Empty 0 ∷ []

-- the states after the bodies of `*`
abbrev pub starred : {L : Type 0} → Bool → ℕ → List ℕ → List ℕ → List (State L) → List (State L)
starred greedy s firsts lasts states = linked s lasts (slice_set states s (Decision (with_exit greedy firsts (length states))))
    ++ Empty 0 ∷ []

-- the state from which a choice of bodies begins, where some choice is
abbrev pub choice_of : {L : Type 0} → List ℕ → State L
choice_of [] = Decision []
choice_of (first ∷ []) = Empty first
choice_of (first ∷ second ∷ more) = Decision (first ∷ second ∷ more)

-- the states after the bodies of `+`
abbrev pub repeated_once : {L : Type 0} → Bool → ℕ → List ℕ → List ℕ → List (State L) → List (State L)
repeated_once greedy s firsts lasts states =
    linked (length states) lasts (slice_set states s (choice_of firsts)) ++ Decision (with_exit greedy firsts (length states + 1))
    ∷ Empty 0 ∷ []

-- the states after the bodies of a block with this repeat
abbrev pub closed : {L : Type 0} → Repeat → ℕ → List ℕ → List ℕ → List (State L) → List (State L)
closed Once s firsts lasts states = joined s firsts lasts states
closed (Optional sign) s firsts lasts states = passed_by sign.greedy s firsts lasts states
closed (Star sign) s firsts lasts states = starred sign.greedy s firsts lasts states
closed (Plus sign) s firsts lasts states = repeated_once sign.greedy s firsts lasts states

-- how many states are made after the bodies
abbrev pub states_after : Repeat → ℕ
states_after Once = 1
states_after (Optional sign) = 2
states_after (Star sign) = 1
states_after (Plus sign) = 2

-- n alternatives of such a block are laid out side by side: a single one of a block that is taken once is not
abbrev pub AreApart : Repeat → ℕ → Type 0
AreApart Once n = 2 ≤ n
AreApart (Optional sign) n = 1 ≤ n
AreApart (Star sign) n = 1 ≤ n
AreApart (Plus sign) n = 1 ≤ n

-- the states of a block of these alternatives, whatever its label is
abbrev pub states_of_block_by : {A : Type 0} → (A → ℕ) → Repeat → Alternatives A → ℕ
states_of_block_by weight repeat xs = states_by weight (block None repeat xs)

-- the same of a block whose atoms are steps
abbrev pub states_of_block : {A : Type 0} → Repeat → Alternatives A → ℕ
states_of_block repeat xs = states_of_block_by one_state repeat xs
