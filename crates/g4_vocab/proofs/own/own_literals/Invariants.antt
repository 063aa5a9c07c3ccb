use Rattle.std.proofs.Common.{map, take}
use Rattle.std.specs.List.{filter_map}
use Rattle.g4_vocab.specs.Numbering.{needs_own}
use Rattle.g4_vocab.specs.Tables.{reference_of}
use Rattle.g4_vocab.proofs.Firsts.{AreFound}
use Rattle.g4_vocab.proofs.own.own_literals.Given as goal

abbrev pub invariant-loop-token : goal.invariant-loop-token
invariant-loop-token l =
    AreFound (filter_map (needs_own (map (λ r. r.now) l.wholes.rules.items)) (map reference_of (take l.token-index l.tokens))) l.seen
    (map (λ k. k.now) l.own.items)
