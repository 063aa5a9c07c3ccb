-- What is known while clauses are chained.
use Rattle.std.specs.Prelude.{◌≡◌, ◌<◌, ◌≤◌, ◌+◌, ℕ, List, [], ◌∷◌, ◌++◌, ◌⊎◌, Bool, true, not, Some, All, Contains, length, take, slice_get, slice_set, count_by, Vec}
use Rattle.std.specs.Global.{Global}
use Rattle.g4_horn.specs.declared.clause.Clause.{Clause}
use Rattle.g4_horn.specs.declared.chaining.Wait.{Wait}
use Rattle.g4_horn.specs.declared.chaining.Chaining.{Chaining}
use Rattle.g4_horn.specs.Follows.{Follows, AllFollow}

-- the answers say that the number follows
abbrev pub Says : List Bool → ℕ → Type 0
Says follows number = slice_get follows number ≡ Some true

-- The first of the needs, from an index on, that is not said to follow is at this index, or there is none.
pub record IsFirstOpen (follows : List Bool) (needs : List ℕ) (from index : ℕ) : Type 0 where
  pub within : index ≤ length needs
  pub before : (k : ℕ) → from ≤ k → k < index → (need : ℕ) → slice_get needs k ≡ Some need → Says follows need
  pub open_there : (need : ℕ) → slice_get needs index ≡ Some need → Says follows need → ⊥

-- the needs of the clause before the index follow
pub record IsWait (clauses : List Clause) (wait : Wait) : Type 0 where
  pub clause : Clause
  pub at : slice_get clauses wait.clause ≡ Some clause
  pub within : wait.next ≤ length clause.needs.items
  pub passed : AllFollow clauses (take wait.next clause.needs.items)

-- the clause of this index is among those that wait
abbrev pub IsAmong : List Wait → ℕ → Type 0
IsAmong waits index = (wait : Wait) × Contains waits wait × (wait.clause ≡ index)

-- the clause of this index waits for the number
abbrev pub WaitsFor : List (Vec Wait Global) → ℕ → ℕ → Type 0
WaitsFor waiting index number = (waits : Vec Wait Global) × (slice_get waiting number ≡ Some waits) × IsAmong waits.items index

-- no clause waits for the number
abbrev pub NoneWaitsFor : List (Vec Wait Global) → ℕ → Type 0
NoneWaitsFor waiting number = (waits : Vec Wait Global) → slice_get waiting number ≡ Some waits → waits.items ≡ []

-- What a clause has come to: it is one of these, its head follows, or one of its needs is past all numbers or waited for.
pub data HasCome (count : ℕ) (left : List Wait) (follows : List Bool) (waiting : List (Vec Wait Global)) (index : ℕ)
    (clause : Clause) : Type 0 where
  in_hand : IsAmong left index → HasCome count left follows waiting index clause
  concluded : Says follows clause.head → HasCome count left follows waiting index clause
  blocked : (need : ℕ) → Contains clause.needs.items need → count ≤ need → HasCome count left follows waiting index clause
  waits : (need : ℕ) → Contains clause.needs.items need → WaitsFor waiting index need → HasCome count left follows waiting index clause

-- What is known of numbers below the count, while these waits are still to be looked at.
pub record Known (clauses : List Clause) (count : ℕ) (left : List Wait) (follows : List Bool) (waiting : List (Vec Wait Global))
    (ready : List ℕ) : Type 0 where
  pub follows_count : length follows ≡ count
  pub waiting_count : length waiting ≡ count
  pub sound : (number : ℕ) → Says follows number → Follows clauses number
  pub are_ready : All (Says follows) ready
  pub left_waits : All (IsWait clauses) left
  pub other_waits : (number : ℕ) (waits : Vec Wait Global) → slice_get waiting number ≡ Some waits → All (IsWait clauses) waits.items
  pub empty : (number : ℕ) → Says follows number → Contains ready number ⊎ NoneWaitsFor waiting number
  pub come : (index : ℕ) (clause : Clause) → slice_get clauses index ≡ Some clause → HasCome count left follows waiting index clause

abbrev pub IsUnderWay : List Clause → ℕ → List Wait → Chaining → Type 0
IsUnderWay clauses count left c = Known clauses count left c.follows.items c.waiting.items c.ready.items

-- a number is new among those that follow
pub record IsReadied (before : Chaining) (number : ℕ) (after : Chaining) : Type 0 where
  pub follows : after.follows.items ≡ slice_set before.follows.items number true
  pub waiting : after.waiting.items ≡ before.waiting.items
  pub ready : after.ready.items ≡ before.ready.items ++ number ∷ []

-- the clause waits for the number, and nothing else changes
pub record IsAdded (before : Chaining) (number : ℕ) (wait : Wait) (after : Chaining) : Type 0 where
  pub old : Vec Wait Global
  pub new : Vec Wait Global
  pub was : slice_get before.waiting.items number ≡ Some old
  pub more : new.items ≡ old.items ++ wait ∷ []
  pub waiting : after.waiting.items ≡ slice_set before.waiting.items number new
  pub follows : after.follows.items ≡ before.follows.items
  pub ready : after.ready.items ≡ before.ready.items

-- how many numbers may still become or be ready
abbrev pub work_left : Chaining → ℕ
work_left c = count_by not c.follows.items + length c.ready.items
