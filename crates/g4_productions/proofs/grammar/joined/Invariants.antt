use Rattle.std.proofs.Common.{◌≡◌, ◌++◌, map}
use Rattle.std.specs.List.{flat_map}
use Rattle.g4_productions.specs.Rules.{section_rules}
use Rattle.g4_productions.proofs.grammar.joined.Given as goal

abbrev pub invariant-loop-section : goal.invariant-loop-section
invariant-loop-section l = (l.rules.items ≡ l.initial.rules.items ++ flat_map section_rules l.yielded)
    × (l.modes.items ≡ map (λ section. section.name) l.yielded)
