use Rattle.std.proofs.Common.{ℕ, List, [], subst}
use Rattle.g4_netlist.specs.Searching.{Known}
use Rattle.g4_netlist.proofs.Marking.{taken_up}
use Rattle.g4_netlist.proofs.search.Search.next.Goals as goal

pub returns-clause-under_way : goal.returns-clause-under_way
returns-clause-under_way c = λ net rule known.
    taken_up net rule c.in_ok-state.state c.args.self.now.found.items c.pop.new.self.items
    (subst (λ (ws : List ℕ). Known net rule [] c.args.self.now.found.items ws) c.in_ok-state.ensures.items known)
