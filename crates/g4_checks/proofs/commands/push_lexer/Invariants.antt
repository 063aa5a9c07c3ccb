use Rattle.std.proofs.Common.{◌≡◌, ◌++◌, map, drop}
use Rattle.std.specs.List.{flat_map}
use Rattle.g4_checks.proofs.commands.push_lexer.Given as goal

abbrev pub invariant-loop-alternative : goal.invariant-loop-alternative
invariant-loop-alternative l = map (λ c. c.now) l.found.items
    ++ flat_map (λ a. a.commands) (drop l.alternative-index l.alternative-items)
    ≡ map (λ c. c.now) l.initial.found.items ++ flat_map (λ a. a.commands) l.alternative-items
