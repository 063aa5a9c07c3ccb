use Rattle.std.proofs.Common.{◌≡◌, ◌+◌, ◌<◌, List}
use Rattle.g4_net.specs.Configurations.{Config}
use Rattle.g4_tokens.specs.TokenList.{word_of}
use Rattle.g4_store.specs.declared.automaton.Fact.{Fact}
use Rattle.g4_store.specs.Known.{KnowsRows}
use Rattle.g4_store.specs.Numbers.{Among}
use Rattle.g4_store.specs.Walks.{Came, SawAlso, Keeps}
use Rattle.g4_learned.specs.Automata.{LeadsTo, StartsAt}
use Rattle.g4_learned.specs.Stored.{columns_of}
use Rattle.g4_learned.proofs.store.Store.walk_along.Given as goal

abbrev pub invariant-loop-k : goal.invariant-loop-k
invariant-loop-k g l =
    (y : List Config) × (fs : List (Fact (List Config)))
    × Came StartsAt LeadsTo g.B.Home.plan l.start (columns_of g.B.Home.plan.net (word_of l.tokens)) l.k l.fn.pass.0 y fs
    × SawAlso fs l.fn.pass.0 l.pass.0
    × Among (l.row, y) l.pass.0.known
    × (l.row < g.B.Home.plan.rows)
    × (l.steps ≡ l.fn.steps + (1 + l.k))
    × (l.pass.1 ≡ l.fn.pass.1)
    × Keeps l.fn.pass.0 l.pass.0
    × (l.pass.0.looks.count ≡ l.fn.pass.0.looks.count + (1 + l.k))
    × KnowsRows g.B.Home.plan.rows l.pass
