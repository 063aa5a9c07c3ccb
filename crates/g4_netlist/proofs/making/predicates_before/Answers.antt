use Rattle.std.proofs.Common.{ℕ, nat_lt, ◌∙◌, ap, arith, rules, cond}
use Rattle.std.specs.List.{count_by}
use Rattle.std.proofs.lemmas.List.Sorted.{IsPartitionPoint-from_clause, IsPartitionedBy-ltb, sum_by-IsPermutation}
use Rattle.g4_netlist.specs.Making.{predicate_orders}
use Rattle.g4_netlist.proofs.Counted.{counted}
use Rattle.g4_netlist.proofs.making.predicates_before.Goals as goal

pub returns : goal.returns
returns c =
    let xs = c.args.orders.now in
    let order = c.order_of-order.result in
    let point = IsPartitionPoint-from_clause (λ (o : ℕ). nat_lt o order) xs c.partition_point.result
    c.partition_point.ensures.partitioned (IsPartitionedBy-ltb (λ (o : ℕ). o) xs order c.requires.rising) (λ a r q k. search rules) in
    let here = counted (λ (o : ℕ). nat_lt o order) xs c.partition_point.result c.partition_point.ensures.bound
    (λ k lt. point.0 k 0 (omega arith) lt) (λ k le lt. point.1 k 0 le lt) in
    here ∙ sum_by-IsPermutation (λ (o : ℕ). cond (nat_lt o order) 1 0) (predicate_orders c.args.net.now) xs c.requires.same
    ∙ ap (λ (n : ℕ). count_by (λ (o : ℕ). nat_lt o n) (predicate_orders c.args.net.now)) c.order_of-order.ensures
