use Rattle.std.proofs.Common.{drop}
use Rattle.g4_core.proofs.Walking.{Walked}
use Rattle.g4_core.proofs.machine.Core.next_slot.Given as goal

abbrev pub invariant-loop-at : goal.invariant-loop-at
invariant-loop-at g l =
    Walked g.A.Automaton.starts g.A.Automaton.leads l.self l.path l.content (drop l.at l.path.looked.items)
