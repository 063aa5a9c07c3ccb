use Rattle.std.proofs.Common.{◌≡◌, ℕ, ◌++◌, List, ◌∙◌, ap, sym, subst, arith, length}
use Rattle.std.specs.List.Sorted.{IsPermutation}
use Rattle.std.proofs.lemmas.List.Sorted.{IsNonDecreasingBy-from_sort}
use Rattle.g4_net.specs.Network.{state_at}
use Rattle.g4_netlist.specs.Making.{predicate_order_by, predicate_orders, predicate_orders_below}
use Rattle.g4_netlist.proofs.Ordered.{orders_more}
use Rattle.g4_netlist.proofs.making.predicate_orders.Goals as goal

pub loop-number-preserved : goal.loop-number-preserved
loop-number-preserved c =
    let i = c.loop-number.number in
    c.in_ok-push_order.ensures
    ∙ ap (λ (xs : List ℕ). xs ++ predicate_order_by c.args.net.now i (state_at c.args.net.now i)) c.loop-number.invariant
    ∙ sym (orders_more c.args.net.now i)

pub returns : goal.returns
returns c =
    let last : c.loop-number.number ≡ length c.args.net.now.states =
    omega (arith, c.loop-number-test.false, c.loop-number.auto.number-end, c.len-number-end.ensures) in
    let all : c.loop-number.orders.items ≡ predicate_orders c.args.net.now =
    c.loop-number.invariant ∙ ap (predicate_orders_below c.args.net.now) last in
    record {
      same = subst (λ (xs : List ℕ). IsPermutation xs c.sort_unstable.new.self.items) all c.sort_unstable.ensures.permutation;
      rising = IsNonDecreasingBy-from_sort (λ order. order) c.sort_unstable.new.self.items c.sort_unstable.ensures.sorted;
    }
