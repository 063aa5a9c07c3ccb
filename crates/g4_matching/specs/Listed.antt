-- A list in which entries are found by their keys.
use Rattle.std.specs.Prelude.{◌≡◌, ℕ, ◌≤◌, List, Option, Some, None, length, slice_get, take}
use Rattle.std.specs.Int.Bits.{bit_xor}
use Rattle.g4_matching.specs.declared.entry.Entry.{Entry}

-- What entries are looked for by: their state and their return states together. Few others have the key of an entry.
abbrev pub key_of : Entry → ℕ
key_of e = bit_xor e.state e.returns

-- the list has at this place an entry with the key
abbrev pub IsAt : List Entry → ℕ → ℕ → Type 0
IsAt list key place = (e : Entry) × (slice_get list place ≡ Some e) × (key_of e ≡ key)

-- the place of the newest entry with the key; None, where there is none
abbrev pub IsNewest : List Entry → ℕ → Option ℕ → Type 0
IsNewest list key None = (k : ℕ) → IsAt list key k → ⊥
IsNewest list key (Some place) = IsAt list key place × ((k : ℕ) → IsAt list key k → k ≤ place)

-- Each entry's link is to the newest entry with its key that is before it; for the key of each entry is noted the place
-- of the newest.
pub record IsIndexed (list : List Entry) (earlier : List (Option ℕ)) (newest : List ℕ) : Type 0 where
  pub as_many : length earlier ≡ length list
  pub linked : (k : ℕ) (e : Entry) (link : Option ℕ) → slice_get list k ≡ Some e → slice_get earlier k ≡ Some link
      → IsNewest (take k list) (key_of e) link
  pub noted : (key k : ℕ) → IsAt list key k → (place : ℕ) × (slice_get newest key ≡ Some place) × IsNewest list key (Some place)
