use Rattle.std.proofs.Common.{sym, ◌∙◌}
use Rattle.g4_matching.proofs.Lookups.{got}
use Rattle.g4_matching.proofs.automaton.Automaton.find.Goals as goal

pub returns-then-are_same : goal.returns-then-are_same
returns-then-are_same c =
    let look = c.in_ok-list.ensures.lookup in (
      c.in_ok-list.list.now,
      got c.args.self.now.lists.items c.deref.result.now c.in-Some.number c.in_ok-list.list.now c.deref.ensures.value look.3.0 look.1,
      sym c.as_slice.ensures.value ∙ c.are_same.ensures c.if-are_same.true ∙ c.as_slice-entries.ensures.value,
    )
