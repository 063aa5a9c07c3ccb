use Rattle.std.proofs.Common.{◌≡◌, ℕ, ◌+◌, ◌-◌, drop, take, get_or, refl, sym, ◌∙◌, ap, arith}
use Rattle.g4_base.specs.Place.{place_after}
use Rattle.g4_names.specs.Places.{place_in}
use Rattle.g4_tags.proofs.Walked.{at_end, at_start, one_more_sign, stops_here}
use Rattle.g4_tags.proofs.pieces.read.Goals as goal

pub loop-at-init : goal.loop-at-init
loop-at-init c = at_start (place_in c.args.places.now) c.args.text.now c.new-joining.result c.new-joining.ensures.pieces
    c.new-joining.ensures.begun c.new-joining.ensures.place

pub returns-in_default : goal.returns-in_default
returns-in_default c =
    let text = c.args.text.now in
    let at = c.loop-at.at in
    stops_here (place_in c.args.places.now) text at c.loop-at-test.true (get_or text at 0) (drop (at + 1) text) refl refl
    c.loop-at.joining c.in_ok-byte_count.field-0 (sym c.in_ok-found.ensures.value ∙ c.in_default.is) c.loop-at.invariant
    c.in_ok-byte_count.ensures

pub loop-at-preserved : goal.loop-at-preserved
loop-at-preserved c =
    let text = c.args.text.now in
    let at = c.loop-at.at in
    let width = c.in-Some.found.width in
    let wide : at + width - at ≡ width = omega arith in
    one_more_sign (place_in c.args.places.now) text at c.loop-at-test.true (get_or text at 0) (drop (at + 1) text) refl refl
    c.in-Some.found c.loop-at.joining c.add.new.self c.in_ok-next.next (sym c.in_ok-found.ensures.value ∙ c.in-Some.is)
    c.loop-at.invariant c.in_ok-add.ensures.place
    (c.in_ok-next.ensures ∙ ap (λ (n : ℕ). place_after c.loop-at.joining.place (take n (drop at text))) wide)
    c.in_ok-add.ensures.added

pub returns : goal.returns
returns c =
    at_end (place_in c.args.places.now) c.args.text.now c.loop-at.at c.loop-at.joining c.in_ok-pieced.pieced c.loop-at-test.false
    c.loop-at.invariant c.in_ok-pieced.ensures.pieces c.in_ok-pieced.ensures.end
