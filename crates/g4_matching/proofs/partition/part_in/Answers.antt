use Rattle.std.proofs.Common.{ℕ, nat_le, arith, rules}
use Rattle.std.proofs.lemmas.List.Sorted.{IsPartitionPoint-from_clause, IsPartitionedBy-leb}
use Rattle.std.proofs.lemmas.Map.Keys.{sorted_from_strictly_increasing, non_decreasing_from_sorted}
use Rattle.g4_matching.proofs.Counted.{counted}
use Rattle.g4_matching.proofs.partition.part_in.Goals as goal

pub returns : goal.returns
returns c =
    let xs = c.args.bounds.now in
    let rising = non_decreasing_from_sorted xs (sorted_from_strictly_increasing xs c.requires) in
    let point = IsPartitionPoint-from_clause (λ (b : ℕ). nat_le b c.args.number) xs c.partition_point.result
    c.partition_point.ensures.partitioned (IsPartitionedBy-leb (λ (b : ℕ). b) xs c.args.number rising) (λ a r q k. search rules) in
    counted (λ (b : ℕ). nat_le b c.args.number) xs c.partition_point.result c.partition_point.ensures.bound
    (λ k lt. point.0 k 0 (omega arith) lt) (λ k le lt. point.1 k 0 le lt)
