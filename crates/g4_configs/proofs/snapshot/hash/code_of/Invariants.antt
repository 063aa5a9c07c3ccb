use Rattle.std.proofs.Common.{◌≡◌, ◌<◌, List, take}
use Rattle.g4_net.specs.Configurations.{Stack}
use Rattle.g4_stacks.specs.Hashing.{EachSum}
use Rattle.g4_configs.specs.Hashing.{row_code}
use Rattle.g4_configs.specs.Rows.{row_of}
use Rattle.g4_configs.proofs.snapshot.hash.code_of.Given as goal

abbrev pub invariant-loop-index : goal.invariant-loop-index
invariant-loop-index l = (l.code < 4294967291)
    × ((lists : List (List Stack)) → EachSum l.sums lists → l.code ≡ row_code (row_of (take l.index l.keys) lists))
