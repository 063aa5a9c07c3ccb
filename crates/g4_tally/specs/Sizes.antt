-- Sizes of sets, and how many things a set has where some count as one.
use Rattle.std.specs.Prelude.{◌≡◌, ◌↔◌, ◌<◌, ℕ, List, length}
use mathlib.Core.Option.{some}
use lib.ListN.{get_elem?}
use Rattle.g4_store.specs.Numbers.{Among}

-- no item is at two places
abbrev pub IsOnce : {X : Type 0} → List X → Type 0
IsOnce items = (i j : ℕ) (x : _) → get_elem? items i ≡ some x → get_elem? items j ≡ some x → i ≡ j

-- So many things are in the set: a list has each of them, none twice, and nothing else.
pub record HasSize {X : Type 0} (Is : X → Type 0) (size : ℕ) : Type 0 where
  pub items : List X
  pub all : (x : X) → Is x ↔ Among x items
  pub once : IsOnce items
  pub count : length items ≡ size

-- So many things are in the set, where some count as one: a list has things of the set alone, each of the set counts as one with one of
-- the list, and no two of the list count as one.
pub record HasClasses {X : Type 0} (Is : X → Type 0) (AreOne : X → X → Type 0) (size : ℕ) : Type 0 where
  pub items : List X
  pub only : (x : X) → Among x items → Is x
  pub each : (x : X) → Is x → (y : X) × Among y items × AreOne x y
  pub once : (i j : ℕ) (x y : X) → get_elem? items i ≡ some x → get_elem? items j ≡ some y → AreOne x y → i ≡ j
  pub count : length items ≡ size

-- More than so many things are in the set.
pub record HasMore {X : Type 0} (Is : X → Type 0) (size : ℕ) : Type 0 where
  pub items : List X
  pub only : (x : X) → Among x items → Is x
  pub once : IsOnce items
  pub more : size < length items
