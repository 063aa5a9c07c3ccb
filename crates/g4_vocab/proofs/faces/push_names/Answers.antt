use Rattle.std.proofs.Common.{◌≡◌, None, map, option_map, sym, ap, ◌∙◌, rules}
use Rattle.std.proofs.lemmas.List.{map-append}
use Rattle.g4_vocab.specs.Shown.{name_face}
use Rattle.g4_vocab.specs.Tables.{face_of}
use Rattle.g4_vocab.proofs.Lists.{picks_more, picks_same}
use Rattle.g4_vocab.proofs.faces.push_names.Goals as goal
use Rattle.g4_vocab.proofs.faces.push_names.Goals.{in-Some+in_ok-push, in_default}

pub loop-entry-preserved : goal.loop-entry-preserved
loop-entry-preserved c = elim c.match-name_face.branch [
  | in-Some+in_ok-push w ↦
      rw w.found-is
      (picks_more name_face c.args.entries.now c.loop-entry.entry-index c.entry-item.result _ (map face_of c.args.found.now.items)
      (map face_of c.loop-entry.found.items) _ c.loop-entry-test.true c.entry-item.is
      (sym c.name_face.ensures ∙ ap (option_map face_of) w.in-Some.is)
      (ap (map face_of) w.in_ok-push.ensures.items ∙ map-append face_of c.loop-entry.found.items _) c.loop-entry.invariant)
  | in_default w ↦
      let none : c.name_face.result ≡ None = search rules in
      rw w.found-is
      (picks_same name_face c.args.entries.now c.loop-entry.entry-index c.entry-item.result (map face_of c.args.found.now.items)
      (map face_of c.loop-entry.found.items) c.loop-entry-test.true c.entry-item.is
      (sym c.name_face.ensures ∙ ap (option_map face_of) none) c.loop-entry.invariant)
]
