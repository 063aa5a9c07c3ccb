use Rattle.std.proofs.Common.{map, take}
use Rattle.g4_vocab.specs.Tables.{AreShown, face_of}
use Rattle.g4_vocab.proofs.faces.first_faces.Given as goal

abbrev pub invariant-loop-face : goal.invariant-loop-face
invariant-loop-face l = AreShown (map face_of (take l.face-index l.faces)) l.first
