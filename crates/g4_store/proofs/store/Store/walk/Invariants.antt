use Rattle.std.proofs.Common.{◌≡◌, ◌+◌, ◌<◌, List}
use Rattle.g4_store.specs.declared.automaton.Fact.{Fact}
use Rattle.g4_store.specs.Numbers.{Among}
use Rattle.g4_store.specs.Walks.{Came, SawAlso, Keeps}
use Rattle.g4_store.proofs.store.Store.walk.Given as goal

abbrev pub invariant-loop-k : goal.invariant-loop-k
invariant-loop-k g l =
    (y : g.row.C.Denot) × (fs : List (Fact g.row.C.Denot))
    × Came g.A.Automaton.starts g.A.Automaton.leads g.B.Home.plan l.start l.columns l.k l.fn.pass.0 y fs
    × SawAlso fs l.fn.pass.0 l.pass.0
    × Among (l.row, y) l.pass.0.known
    × (l.row < g.B.Home.plan.rows)
    × (l.steps ≡ l.fn.steps + (1 + l.k))
    × (l.pass.1 ≡ l.fn.pass.1)
    × Keeps l.fn.pass.0 l.pass.0
    × (l.pass.0.looks.count ≡ l.fn.pass.0.looks.count + (1 + l.k))
