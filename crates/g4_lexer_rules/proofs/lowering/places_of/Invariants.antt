use Rattle.std.proofs.Common.{take}
use Rattle.g4_names.specs.Places.{ArePlaces}
use Rattle.g4_lexer_rules.specs.NetworkRules.{names_of}
use Rattle.g4_lexer_rules.proofs.lowering.places_of.Given as goal

abbrev pub invariant-loop-place : goal.invariant-loop-place
invariant-loop-place l = ArePlaces (take l.place (names_of l.rules)) l.places
