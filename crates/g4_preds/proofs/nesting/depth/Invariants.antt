use Rattle.std.proofs.Common.{◌≡◌, ◌≤◌, take}
use Rattle.g4_preds.specs.Levels.{levels_of, none_open}
use Rattle.g4_preds.proofs.Depths.{past_all}
use Rattle.g4_preds.proofs.nesting.depth.Given as goal

abbrev pub invariant-loop-token : goal.invariant-loop-token
invariant-loop-token l = (levels_of l.nesting ≡ past_all none_open (take l.token-index l.tokens)) × (l.nesting.current ≤ l.token-index)
