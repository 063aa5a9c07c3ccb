-- Nodes that are visited once.
use Rattle.std.proofs.Common.{◌≡◌, ◌+◌, ℕ, List, Bool, true, false, not, Some, cond, count_by, get_or, set, slice_get, refl, ap, arith}
use Rattle.std.proofs.lemmas.List.Sums.{sum_by-set}
use Rattle.std.proofs.lemmas.Option.{slice_get_within, get_or_from_slice_get}

-- a node that is visited is no longer new
pub visited_once : (visited : List Bool) (k : ℕ) → slice_get visited k ≡ Some false
    → count_by not (set visited k true) + 1 ≡ count_by not visited
visited_once visited k new =
    let f : Bool → ℕ = λ b. cond (not b) 1 0 in
    let e : count_by not (set visited k true) + f (get_or visited k false) ≡ count_by not visited + f true =
    sum_by-set f visited k true false (slice_get_within visited k false new) in
    let one : f (get_or visited k false) ≡ 1 = ap f (get_or_from_slice_get visited k false false new) in
    let zero : f true ≡ 0 = refl in
    omega (arith, e, one, zero)
