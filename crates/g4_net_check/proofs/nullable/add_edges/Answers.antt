use Rattle.std.proofs.Common.{◌+◌, List, ℕ, take, get_or, refl, subst}
use Rattle.std.proofs.lemmas.List.{take_more, take_all}
use Rattle.g4_net_check.specs.Clauses.{AddsClauses}
use Rattle.g4_net_check.proofs.Clauses.{EdgeNeeds, adds_edge}
use Rattle.g4_net_check.proofs.nullable.add_edges.Goals as goal

pub loop-target-preserved : goal.loop-target-preserved
loop-target-preserved c =
    let xs = c.args.targets.now in
    let i = c.loop-target.target-index in
    adds_edge c.args.head (get_or xs i 0) (take i xs) (take (i + 1) xs) c.args.clauses.now.items c.loop-target.clauses.items
    c.push.new.self.items (record { head = c.args.head; needs = c.in_ok-needs.needs })
    (take_more xs i 0 c.loop-target-test.true) c.in_ok-push.ensures.items refl c.in_ok-needs.ensures.items c.loop-target.invariant

pub returns : goal.returns
returns c = subst (λ (l : List ℕ). AddsClauses c.args.head (EdgeNeeds l) c.args.clauses.now.items c.loop-target.clauses.items)
    (take_all c.loop-target.target-index c.args.targets.now c.loop-target-test.false) c.loop-target.invariant
