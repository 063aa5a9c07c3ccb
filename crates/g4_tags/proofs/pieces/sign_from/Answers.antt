use Rattle.std.proofs.Common.{ℕ, ◌+◌, ◌-◌, length, drop, take, get_or, ap, ◌∙◌}
use Rattle.std.proofs.lemmas.List.{get_or_default, take_rest}
use Rattle.g4_names.specs.Places.{place_in}
use Rattle.g4_tags.specs.Found.{sign_found}
use Rattle.g4_tags.proofs.Walked.{fits_here, moves_here}
use Rattle.g4_tags.proofs.pieces.sign_from.Goals as goal

pub returns-clause-value : goal.returns-clause-value
returns-clause-value c =
    let text = c.args.text.now in
    let at = c.args.at in
    c.in_ok-found.ensures
    ∙ ap (λ (x : ℕ). sign_found (place_in c.args.places.now) x (take (length text - (at + 1)) (drop (at + 1) text)))
    (c.index-text-at.is ∙ get_or_default text at c.index-text-at.result 0 c.requires)
    ∙ ap (sign_found (place_in c.args.places.now) (get_or text at 0)) (take_rest text (at + 1))

pub returns-clause-fits : goal.returns-clause-fits
returns-clause-fits c =
    fits_here (place_in c.args.places.now) c.args.text.now c.args.at c.requires c.in_ok-found.found (returns-clause-value c)

pub returns-clause-moves : goal.returns-clause-moves
returns-clause-moves c =
    moves_here (place_in c.args.places.now) c.args.text.now c.args.at c.requires c.in_ok-found.found (returns-clause-value c)
