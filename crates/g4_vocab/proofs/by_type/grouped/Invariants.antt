use Rattle.std.proofs.Common.{◌+◌, map, take}
use Rattle.g4_token_file.specs.Keys.{greatest_number}
use Rattle.g4_vocab.specs.Shown.{own_token}
use Rattle.g4_vocab.specs.Tables.{HaveJoined}
use Rattle.g4_vocab.proofs.by_type.grouped.Given as goal

abbrev pub invariant-loop-literal : goal.invariant-loop-literal
invariant-loop-literal l = HaveJoined (greatest_number l.types + 1)
    (map (own_token l.types) (map (λ k. k.now) (take l.literal-index l.literals))) l.groups
