use Rattle.std.proofs.Common.{◌≡◌, ◌++◌, map, take}
use Rattle.g4_vocab.specs.Shown.{own_face}
use Rattle.g4_vocab.specs.Tables.{face_of}
use Rattle.g4_vocab.proofs.faces.push_own.Given as goal

abbrev pub invariant-loop-literal : goal.invariant-loop-literal
invariant-loop-literal l = map face_of l.found.items
    ≡ map face_of l.initial.found.items ++ map (own_face l.types) (map (λ k. k.now) (take l.literal-index l.own))
