-- The seats of hands, while they are given out.
use Rattle.std.specs.Prelude.{◌≡◌, ◌<◌, ◌≤◌, ◌+◌, ◌⊎◌, ℕ, List, [], ◌∷◌, ◌++◌, length, slice_get, Some}
use Rattle.g4_hands.specs.Reaches.{DequeId, Reach}
use Rattle.g4_hands.specs.Hands.{seat_at}

-- each row from one to another has one more seat, and the others are the same
pub record HaveOneMore (from to : ℕ) (r : Reach) (before after : List (List Reach)) : Type 0 where
  pub long : length after ≡ length before
  pub inside : (i : ℕ) (row : List Reach) → from ≤ i → i < to → slice_get before i ≡ Some row → slice_get after i ≡ Some (row ++ r ∷ [])
  pub outside : (i : ℕ) → (i < from) ⊎ (to ≤ i) → slice_get after i ≡ slice_get before i

-- the row of a hand, with a seat at each of these deques, from which nothing was taken
abbrev pub fresh_row : ℕ → ℕ → ℕ → ℕ → List DequeId → List Reach
fresh_row files jobs number deque [] = []
fresh_row files jobs number deque (name ∷ names) = seat_at files jobs number deque name [] ∷ fresh_row files jobs number (deque + 1) names

-- each hand has a seat at each of these deques
pub record AreRows (files jobs : ℕ) (names : List DequeId) (rows : List (List Reach)) : Type 0 where
  pub long : length rows ≡ jobs
  pub each : (number : ℕ) (row : List Reach) → slice_get rows number ≡ Some row → row ≡ fresh_row files jobs number 0 names

-- each hand has one more seat, at this deque
pub record AreSeated (files jobs deque : ℕ) (name : DequeId) (before after : List (List Reach)) : Type 0 where
  pub long : length after ≡ length before
  pub seats : (number : ℕ) (row : List Reach) → slice_get before number ≡ Some row
      → slice_get after number ≡ Some (row ++ seat_at files jobs number deque name [] ∷ [])
