-- What a hand is, and what it takes.
use Rattle.std.specs.Prelude.{◌≡◌, ◌<◌, ◌≤◌, ◌-◌, ◌%◌, ◌==◌, ℕ, List, [], ◌∷◌, ◌++◌, if◌then◌else◌, length, map, replicate, slice_get, slice_index_or, slice_set, Some}
use Rattle.g4_hands.specs.Dealing.{dealt}
use Rattle.g4_hands.specs.Reaches.{DequeId, Reach, having, reach}
use Rattle.g4_hands.specs.Shares.{IsFirst, WasEmpty, share}
use Rattle.g4_hands.specs.declared.share.Share.{Share}

-- so many files, dealt to so many hands, by a deque for each hand
pub record Deal : Type 0 where
  pub files : ℕ
  pub jobs : ℕ
  pub deques : List DequeId

-- a hand of a deal, with what it has taken from each of the deques, in order
pub record Holding : Type 0 where
  pub deal : Deal
  pub number : ℕ
  pub taken : List (List ℕ)

-- of the parts of the right to know a deque whole each other hand has one, and the deque's own hand has the others
abbrev pub parts_of : ℕ → ℕ → ℕ → ℕ
parts_of jobs number deque = if deque == number then 1025 - jobs else 1

-- what a hand that has taken this from a deque knows of the deque
abbrev pub known_of : Holding → ℕ → List ℕ → Share
known_of h deque taken = share (parts_of h.deal.jobs h.number deque) (dealt h.deal.jobs deque h.deal.files) taken

-- a hand with these seats, one at each deque
abbrev pub holding : ℕ → ℕ → List Reach → Holding
holding files number seats =
    record {
      deal = record { files = files; jobs = length seats; deques = map (λ (r : Reach). r.deque) seats };
      number = number;
      taken = map (λ (r : Reach). r.share.taken) seats;
    }

-- the seat at a deque, where this was taken from it
abbrev pub seat_at : ℕ → ℕ → ℕ → ℕ → DequeId → List ℕ → Reach
seat_at files jobs number deque name taken =
    reach (deque == number) name (share (parts_of jobs number deque) (dealt jobs deque files) taken)

pub record IsHand (files number : ℕ) (seats : List Reach) : Type 0 where
  pub within : number < length seats
  pub few : length seats ≤ 64
  pub each : (deque : ℕ) (r : Reach) → slice_get seats deque ≡ Some r
      → r ≡ seat_at files (length seats) number deque r.deque r.share.taken

-- of the deques from one to another, each was empty at a moment
abbrev pub WereEmpty : ℕ → ℕ → List Reach → Type 0
WereEmpty from to seats = (deque : ℕ) (r : Reach) → from ≤ deque → deque < to → slice_get seats deque ≡ Some r → WasEmpty r.share

-- the next number of a deque was taken
pub record TookOne (before now : List Reach) (k : ℕ) : Type 0 where
  pub deque : ℕ
  pub seat : Reach
  pub at : slice_get before deque ≡ Some seat
  pub next : IsFirst seat.share (k ∷ [])
  pub is : now ≡ slice_set before deque (having seat k)

-- each deque was empty at a moment
abbrev pub AllWereEmpty : Holding → Type 0
AllWereEmpty h = (deque : ℕ) (taken : List ℕ) → slice_get h.taken deque ≡ Some taken → WasEmpty (known_of h deque taken)

-- what a hand has taken from a deque
abbrev pub taken_from : Holding → ℕ → List ℕ
taken_from h deque = slice_index_or h.taken deque []

-- File k was dealt to a deque and came next there, and this hand has taken it from there, and nothing else.
pub record Took (before after : Holding) (k : ℕ) : Type 0 where
  pub file : k < before.deal.files
  pub next : IsFirst (known_of before (k % before.deal.jobs) (taken_from before (k % before.deal.jobs))) (k ∷ [])
  pub deal : after.deal ≡ before.deal
  pub number : after.number ≡ before.number
  pub taken : after.taken ≡ slice_set before.taken (k % before.deal.jobs) (taken_from before (k % before.deal.jobs) ++ k ∷ [])

-- the hands of a deal, in order, none of which has taken anything
abbrev pub AreDealt : ℕ → ℕ → List Holding → Type 0
AreDealt files jobs hands =
    (deques : List DequeId)
    × (length hands ≡ jobs)
    × ((number : ℕ) (h : Holding) → slice_get hands number ≡ Some h
    → h ≡ record { deal = record { files = files; jobs = jobs; deques = deques }; number = number; taken = replicate jobs [] })
