use Rattle.g4_merge.proofs.Known.{Added}
use Rattle.g4_merge.proofs.parts.Parts.add_all.Given as goal

abbrev pub invariant-loop-before : goal.invariant-loop-before
invariant-loop-before l = Added l.initial.self.prequels.items l.initial.self.rules.items l.initial.self.files.items
    l.initial.self.modes.items l.fn.imports.items l.before l.rest.rest.items l.self.prequels.items l.self.rules.items
    l.self.files.items l.self.modes.items
