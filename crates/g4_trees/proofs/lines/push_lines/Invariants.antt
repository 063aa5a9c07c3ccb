use Rattle.std.proofs.Common.{drop}
use Rattle.std.specs.List.{flat_map}
use Rattle.g4_trees.specs.TokenLines.{token_line}
use Rattle.g4_trees.proofs.Appended.{Leaves}
use Rattle.g4_trees.proofs.lines.push_lines.Given as goal

abbrev pub invariant-loop-token : goal.invariant-loop-token
invariant-loop-token l =
    Leaves (flat_map (token_line l.shown l.name l.bytes) l.tokens)
    (flat_map (token_line l.shown l.name l.bytes) (drop l.token-index l.tokens)) l.initial.out.items l.out.items
