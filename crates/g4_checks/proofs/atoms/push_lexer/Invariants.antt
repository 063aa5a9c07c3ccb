use Rattle.std.proofs.Common.{◌≡◌, ◌++◌, map, drop}
use Rattle.std.specs.List.{flat_map}
use Rattle.g4_source.specs.Elements.{atoms_in_order}
use Rattle.g4_source.specs.declared.kind.RuleKind.TheVariants.{Lexer}
use Rattle.g4_checks.specs.Views.{use_view}
use Rattle.g4_checks.proofs.Nodes.{in_rule}
use Rattle.g4_checks.proofs.atoms.push_lexer.Given as goal

abbrev pub invariant-loop-alternative : goal.invariant-loop-alternative
invariant-loop-alternative l = map use_view l.found.items
    ++ flat_map (λ a. in_rule Lexer (atoms_in_order a.elements)) (drop l.alternative-index l.alternative-items)
    ≡ map use_view l.initial.found.items ++ flat_map (λ a. in_rule Lexer (atoms_in_order a.elements)) l.alternative-items
