-- The rule of a deque, and what its passes know.
use Rattle.std.specs.Prelude.{◌≡◌, ◌<◌, ◌≤◌, ◌+◌, ℕ, List, [], ◌++◌, sum_by}
use mathlib.Core.Option.{some}
use lib.ListN.{get_elem?}
use Rattle.g4_hands.specs.declared.share.Share.{Share}
use Rattle.g4_hands.specs.Dealing.{times}

abbrev pub share : ℕ → List ℕ → List ℕ → Share
share parts put taken = record { parts = parts; dealt = put; taken = taken }

-- the parts in which the right to know the whole deque is cut
abbrev pub all_parts : ℕ
all_parts = 1024

-- what a pass knows that has come back, and one that knows nothing yet
abbrev pub no_share : Share
no_share = share 0 [] []

-- what two passes know together
abbrev pub joined : Share → Share → Share
joined v w = share (v.parts + w.parts) v.dealt (v.taken ++ w.taken)

-- a pass without a part has taken nothing; one with a part knows what was put on the deque
abbrev pub Fits : List ℕ → Share → Type 0
Fits put v = (v.parts ≡ 0 → v.taken ≡ []) × (0 < v.parts → v.dealt ≡ put)

-- what was put on the deque is what is gone, and then what is left. Each number is gone as often as the passes took it, all together
pub record IsShared (left : List ℕ) (views : List Share) : Type 0 where
  pub put : List ℕ
  pub gone : List ℕ
  pub order : put ≡ gone ++ left
  pub parts : sum_by (λ v. v.parts) views ≡ all_parts
  pub taken : (x : ℕ) → sum_by (λ v. times x v.taken) views ≡ times x gone
  pub fits : (seat : ℕ) (v : Share) → get_elem? views seat ≡ some v → Fits put v

-- There was a moment at which xs were the first numbers that were left on the deque, and this is what the pass knew then. So what
-- the pass has taken was put on the deque before them.
pub record IsFirst (v : Share) (xs : List ℕ) : Type 0 where
  pub before : List ℕ
  pub after : List ℕ
  pub views : List Share
  pub seat : ℕ
  pub rule : IsShared (xs ++ after) views
  pub mine : get_elem? views seat ≡ some v
  pub are : v.dealt ≡ (before ++ xs) ++ after
  pub earlier : (y : ℕ) → times y v.taken ≤ times y before

-- there was a moment at which nothing was left on the deque, and this is what the pass knew then
pub record WasEmpty (v : Share) : Type 0 where
  pub views : List Share
  pub seat : ℕ
  pub rule : IsShared [] views
  pub mine : get_elem? views seat ≡ some v
