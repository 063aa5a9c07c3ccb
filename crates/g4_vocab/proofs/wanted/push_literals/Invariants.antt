use Rattle.std.proofs.Common.{◌≡◌, ◌++◌, map, take}
use Rattle.g4_vocab.specs.Numbering.{literal_token}
use Rattle.g4_vocab.specs.Tables.{wanted_of}
use Rattle.g4_vocab.proofs.wanted.push_literals.Given as goal

abbrev pub invariant-loop-literal : goal.invariant-loop-literal
invariant-loop-literal l = map wanted_of l.found.items
    ≡ map wanted_of l.initial.found.items ++ map literal_token (map (λ k. k.now) (take l.literal-index l.literals))
