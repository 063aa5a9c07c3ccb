use Rattle.std.proofs.Common.{◌≡◌, drop}
use Rattle.g4_patterns.specs.Walking.{all_found, starting, walk}
use Rattle.g4_patterns.proofs.matching.is_found.Given as goal

abbrev pub invariant-loop-item : goal.invariant-loop-item
invariant-loop-item l =
    all_found (walk l.ground.items.now l.ground.lasts.now l.ground.tokens.now l.tokens (starting l.node) l.items)
    ≡ all_found (walk l.ground.items.now l.ground.lasts.now l.ground.tokens.now l.tokens l.stand (drop l.item-index l.items))
