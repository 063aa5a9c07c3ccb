use Rattle.std.proofs.Common.{◌≡◌, ◌≤◌, ◌*◌, take}
use Rattle.g4_grammar_tokens.specs.Positions.{byte_count}
use Rattle.g4_grammar_tokens.proofs.position.byte_count.Given as goal

abbrev pub invariant-loop-c : goal.invariant-loop-c
invariant-loop-c l = (l.count ≡ byte_count (take l.c-index l.characters)) × (l.count ≤ 4 * l.c-index)
