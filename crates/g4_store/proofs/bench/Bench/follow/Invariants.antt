use Rattle.std.proofs.Common.{◌++◌, length}
use Rattle.g4_store.specs.Paths.{BeginsAt, Going, HasKnownRow, LeadsOn, cells_of, first_facts}
use Rattle.g4_store.proofs.bench.Bench.follow.Given as goal

abbrev pub invariant-loop-next : goal.invariant-loop-next
invariant-loop-next g l =
    (x : _) × BeginsAt g.A.Automaton.starts g.B.Home.plan (HasKnownRow l.fn.self) l.fn.origin x
    × Going g.B.Home.plan.rows (first_facts l.fn.origin x ++ cells_of x l.fn.looked.items) l.fn.self l.self l.progress.full l.progress.at
    l.rest.items (λ y. LeadsOn g.A.Automaton.starts g.A.Automaton.leads g.B.Home.plan y l.rest.items)

abbrev pub decreases-loop-next : goal.decreases-loop-next
decreases-loop-next g l = length l.rest.items
