use Rattle.std.proofs.Common.{sym, ◌∙◌}
use Rattle.g4_vocab.proofs.FirstFaces.{face_added, face_passed}
use Rattle.g4_vocab.proofs.faces.add_face.Goals as goal

pub returns-in_ok-insert : goal.returns-in_ok-insert
returns-in_ok-insert c = face_added c.args.face c.args.first.now c.insert.new.self (sym c.contains_key.ensures ∙ c.if-not-contains_key.true)
    c.in_ok-insert.ensures.updates

pub returns-else-not-contains_key : goal.returns-else-not-contains_key
returns-else-not-contains_key c = face_passed c.args.face c.args.first.now (sym c.contains_key.ensures ∙ c.if-not-contains_key.false)
