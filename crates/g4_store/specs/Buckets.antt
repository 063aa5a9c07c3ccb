-- Rows found by content: those whose hashes leave one rest are a bucket, linked from the newest to the oldest.
-- A link is a row's number and one, or 0 for none.
use Rattle.std.specs.Prelude.{◌≡◌, ◌≢◌, ℕ, ◌-◌, ◌<◌, ◌≤◌, ◌%◌, List, length, slice_index}
use mathlib.Core.Option.{some}
use lib.ListN.{get_elem?}

module _ {C : Type 0} (code : C → ℕ) where
  -- the rows have this content at r, which is in the bucket
  abbrev pub IsInBucket : ℕ → ℕ → List C → ℕ → Type 0
  IsInBucket count bucket rows r = (x : C) × (get_elem? rows r ≡ some x) × (code x % count ≡ bucket)

  -- the link leads to the newest row of the bucket below n
  pub record IsNewest (count bucket : ℕ) (rows : List C) (n link : ℕ) : Type 0 where
    pub within : link ≤ n
    pub inside : link ≢ 0 → IsInBucket count bucket rows (link - 1)
    pub none : (r : ℕ) → link ≤ r → r < n → IsInBucket count bucket rows r → ⊥

  -- newest has a link for each bucket, and older one for each row
  pub record AreLinked (rows : List C) (newest older : List ℕ) : Type 0 where
    pub buckets : 0 < length newest
    pub count : length older ≡ length rows
    pub first : (bucket : ℕ) → bucket < length newest → IsNewest (length newest) bucket rows (length rows) (slice_index newest bucket)
    pub next : (r : ℕ) (x : C) → get_elem? rows r ≡ some x → IsNewest (length newest) (code x % length newest) rows r (slice_index older r)
