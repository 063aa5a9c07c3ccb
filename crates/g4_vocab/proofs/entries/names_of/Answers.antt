use Rattle.std.proofs.Common.{[], sym, ◌∙◌, rules}
use Rattle.g4_vocab.specs.Shown.{entry_name}
use Rattle.g4_vocab.proofs.Lists.{picks_more, picks_same}
use Rattle.g4_vocab.proofs.entries.names_of.Goals as goal
use Rattle.g4_vocab.proofs.entries.names_of.Goals.{in-Some+in_ok-push, in_default}

pub loop-entry-preserved : goal.loop-entry-preserved
loop-entry-preserved c = elim c.match-branch-2.branch [
  | in-Some+in_ok-push w ↦
      rw w.names-is
      (picks_more entry_name c.args.entries.now c.loop-entry.entry-index c.entry-item.result _ [] c.loop-entry.names.items _
      c.loop-entry-test.true c.entry-item.is (sym c.in_ok-name.ensures ∙ w.in-Some.is) w.in_ok-push.ensures.items
      c.loop-entry.invariant)
  | in_default w ↦
      rw w.names-is
      (picks_same entry_name c.args.entries.now c.loop-entry.entry-index c.entry-item.result [] c.loop-entry.names.items
      c.loop-entry-test.true c.entry-item.is (sym c.in_ok-name.ensures ∙ search rules) c.loop-entry.invariant)
]
