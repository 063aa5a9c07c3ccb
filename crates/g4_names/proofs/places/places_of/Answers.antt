use Rattle.std.proofs.Common.{ℕ, List, ap, ◌∙◌}
use Rattle.std.proofs.lemmas.List.{take_all}
use Rattle.g4_names.specs.Places.{first_place}
use Rattle.g4_names.proofs.Firsts.{one_more}
use Rattle.g4_names.proofs.places.places_of.Goals as goal

pub loop-place-init : goal.loop-place-init
loop-place-init c = c.new-places.ensures

pub loop-place-preserved : goal.loop-place-preserved
loop-place-preserved c =
    one_more c.args.names.now c.loop-place.place c.index-names-place.result c.as_str.result.now c.loop-place.places c.add.new.self
    c.loop-place-test.true c.index-names-place.is c.as_str.ensures c.loop-place.invariant
    c.in_ok-add.ensures.added

pub returns-clause-places : goal.returns-clause-places
returns-clause-places c =
    λ name. c.loop-place.invariant name ∙ ap (λ (names : List (List ℕ)). first_place names name)
    (take_all c.loop-place.place c.args.names.now c.loop-place-test.false)
