use Rattle.std.proofs.Common.{List, ℕ, map, ap, ◌∙◌, subst}
use Rattle.std.specs.List.{range_with_len}
use Rattle.g4_token_file.specs.Keys.{greatest_number}
use Rattle.g4_vocab.specs.Shown.{Face, faces}
use Rattle.g4_vocab.specs.Tables.{AreShown, face_of, shown_at}
use Rattle.g4_vocab.proofs.FirstFaces.{all_shown}
use Rattle.g4_vocab.proofs.faces.shown_types.Goals as goal

pub returns : goal.returns
returns c =
    let first = c.in_ok-first.first in
    let types = c.args.types.now in
    let all : List Face = faces (map (λ r. r.now) c.args.wholes.now.rules.items) (map (λ l. l.now) c.args.own.now) types in
    let are : AreShown all first =
    subst (λ (fs : List Face). AreShown fs first) (ap (map face_of) c.as_slice.ensures.value ∙ c.in_ok-found.ensures)
    c.in_ok-first.ensures in
    c.new.ensures
    ∙ (c.in_ok-shown.ensures
    ∙ (ap (λ (n : ℕ). map (shown_at first) (range_with_len 1 n)) c.greatest.ensures.value
    ∙ all_shown all first are (range_with_len 1 (greatest_number types))))
