use Rattle.std.proofs.Common.{◌≡◌, ◌∙◌, ap, rules}
use Rattle.std.specs.Str.{IsUtf8, chars}
use Rattle.std.proofs.lemmas.Str.{chars_from_encodes}
use Rattle.g4_base.specs.Place.{first_place, place_after}
use Rattle.g4_grammar_tokens.specs.Answers.{unmarked}
use Rattle.g4_reader.proofs.fault.end_of.Goals as goal

pub returns : goal.returns
returns c =
    let utf8 : IsUtf8 c.args.text.now = search rules in
    let same : c.in_ok-characters.characters.items ≡ chars c.args.text.now = search (rules, chars_from_encodes) in
    c.place_after.ensures ∙ ap (place_after first_place) (c.unmarked.ensures ∙ ap unmarked (c.deref.ensures.value ∙ same))
