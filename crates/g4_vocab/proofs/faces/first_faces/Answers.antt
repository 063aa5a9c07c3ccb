use Rattle.g4_vocab.proofs.FirstFaces.{faces_next}
use Rattle.g4_vocab.proofs.faces.first_faces.Goals as goal

pub loop-face-preserved : goal.loop-face-preserved
loop-face-preserved c = faces_next c.args.faces.now c.loop-face.face-index _ c.loop-face.first c.add_face.new.first c.loop-face-test.true
    c.in_ok-add_face.ensures c.loop-face.invariant
