use Rattle.g4_cursor.proofs.Turning.{Listed, left}
use Rattle.g4_cursor.specs.Options.{settings_in_order}
use Rattle.g4_cursor.proofs.options.settings.Given as goal

abbrev pub invariant-loop-cursor : goal.invariant-loop-cursor
invariant-loop-cursor l = Listed settings_in_order l.initial.settings.items l.initial.cursor l.settings.items l.cursor

abbrev pub decreases-loop-cursor : goal.decreases-loop-cursor
decreases-loop-cursor l = left l.cursor
