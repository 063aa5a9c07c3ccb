use Rattle.std.proofs.Common.{◌++◌, List, ℕ, length, encode_utf8_all, refl, sym, ◌∙◌, ap}
use Rattle.std.proofs.lemmas.List.{append_cancel_right}
use Rattle.g4_names.specs.Places.{first_place as place_named}
use Rattle.g4_tags.proofs.OneReading.{one_stop}
use Rattle.g4_tags.proofs.law.one_fault.Goals as goal

pub returns : goal.returns
returns c = λ names text one other p q.
    let same = one_stop (place_named names) text _ _ p.after q.after p.signs q.signs p.read q.read refl p.no_tag refl q.no_tag in
    let fronts = append_cancel_right p.front q.front _ (sym p.cut ∙ q.cut ∙ ap (λ (r : List ℕ). q.front ++ r) (sym same)) in
    p.at_byte ∙ ap (λ (f : List ℕ). length (encode_utf8_all f)) fronts ∙ sym q.at_byte
