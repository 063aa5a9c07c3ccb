use Rattle.std.proofs.Common.{◌≡◌, ℕ, List, Some, None, IsTrue, sym, subst, rules}
use Rattle.g4_net.specs.declared.network.State.{State}
use Rattle.g4_closure.specs.Steps.{target_by}
use Rattle.g4_closure.proofs.Taking.{takes_not}
use Rattle.g4_closure.proofs.lookahead.taken.Goals as goal

pub returns-in_default : goal.returns-in_default
returns-in_default c =
    subst (λ (s : State (List ℕ)). None ≡ target_by c.args.symbol (Some s)) (sym c.in-Edge.is)
    (takes_not c.args.symbol c.in-Edge.target c.in-Edge.set
    (λ has. let yes : IsTrue c.contains.result = c.contains.ensures.1 has in absurd (search rules)))
