use Rattle.std.proofs.Common.{◌≡◌, map, take}
use Rattle.g4_source.specs.Trees.{element_of}
use Rattle.g4_lexer_rules.proofs.Chains.{character_of}
use Rattle.g4_lexer_rules.proofs.lowering.chained.Given as goal

abbrev pub invariant-loop-character : goal.invariant-loop-character
invariant-loop-character l = map element_of l.elements.items ≡ map character_of (take l.character-index l.characters)
