-- What a pass knows of the rows of its store.
use Rattle.std.specs.Prelude.{◌≡◌, ℕ, ◌<◌, List, length, Bool, true}
use mathlib.Core.Option.{some}
use lib.ListN.{get_elem?}
use Rattle.g4_store.specs.declared.view.View.{View}
use Rattle.g4_store.specs.Numbers.{Among}

module _ {C : Type 0} where
  -- Each row that is known has a number below that of the rows that there may be, and one content.
  pub record AreRows (most : ℕ) (known : List (ℕ × C)) : Type 0 where
    pub within : (t : ℕ) (y : C) → Among (t, y) known → t < most
    pub one : (t : ℕ) (y z : C) → Among (t, y) known → Among (t, z) known → y ≡ z

  -- As many rows are known as there may be, each with another content.
  pub record HasAllRows (most : ℕ) (known : List (ℕ × C)) : Type 0 where
    pub rows : List C
    pub all : length rows ≡ most
    pub differ : (r q : ℕ) (x : C) → get_elem? rows r ≡ some x → get_elem? rows q ≡ some x → r ≡ q
    pub are_known : (t : ℕ) (y : C) → get_elem? rows t ≡ some y → Among (t, y) known

  -- What the pass knows are rows, and if it has met with a want of room, it knows all that there may be.
  pub record KnowsRows (most : ℕ) (pass : View C × Bool) : Type 0 where
    pub are : AreRows most pass.0.known
    pub all : pass.1 ≡ true → HasAllRows most pass.0.known
