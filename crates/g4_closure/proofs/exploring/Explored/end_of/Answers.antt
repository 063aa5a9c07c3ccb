use Rattle.std.proofs.Common.{rules, ◌≡◌, ℕ, List, IfSome, Some, sym, subst}
use Rattle.g4_net.specs.declared.network.State.{State}
use Rattle.g4_net.specs.Network.{start_of}
use Rattle.g4_closure.specs.Ends.{EndsFrom, IsEnd}
use Rattle.g4_closure.proofs.exploring.Explored.end_of.Goals as goal

pub returns-in-Level : goal.returns-in-Level
returns-in-Level c = subst
    (λ (s : State (List ℕ)). IfSome c.ends-in-Level.result (EndsFrom c.args.self.now.marks.items (Some s)))
    (sym c.in-Level.is) c.ends-in-Level.ensures

pub returns-in-Predicate : goal.returns-in-Predicate
returns-in-Predicate c = subst
    (λ (s : State (List ℕ)). IfSome c.ends-in-Predicate.result (EndsFrom c.args.self.now.marks.items (Some s)))
    (sym c.in-Predicate.is) c.ends-in-Predicate.ensures

pub returns-in_ok-start-in-Call : goal.returns-in_ok-start-in-Call
returns-in_ok-start-in-Call c =
    let is : c.in_ok-start-in-Call.start ≡ start_of c.in-Call.rule = search rules in
    subst (λ (s : State (List ℕ)). IfSome c.end_around.result (EndsFrom c.args.self.now.marks.items (Some s))) (sym c.in-Call.is)
    (subst (λ (p : ℕ). IfSome c.end_around.result (λ rule. (called : ℕ) × IsEnd c.args.self.now.marks.items p called
    × IsEnd c.args.self.now.marks.items c.in-Call.back rule)) is c.end_around.ensures)
