use Rattle.std.proofs.Common.{◌≡◌, ℕ, ◌+◌, ◌-◌, ◌<◌, true, false, drop, length, map, sym, subst, ◌∙◌, arith}
use Rattle.g4_source.specs.Trees.{element_of, in_order}
use Rattle.g4_leftrec.specs.OwnCalls.{is_atom}
use Rattle.g4_leftrec.specs.OwnSteps.{calls, is_silent}
use Rattle.g4_leftrec.proofs.LastCalls.{IsPassed, found_at, not_found_at}
use Rattle.g4_leftrec.proofs.Steps.{call_is_not_silent}
use Rattle.g4_leftrec.proofs.places.place_of_last_call.Goals as goal

pub returns-then-is_plain_call-clause-last : goal.returns-then-is_plain_call-clause-last
returns-then-is_plain_call-clause-last c =
    let xs = c.args.elements.now in
    let x = c.index-elements-place.result in
    let next : c.loop-place.place ≡ c.loop-place.place - 1 + 1 = omega arith in
    let within : c.loop-place.place - 1 < length xs = omega arith in
    let own : is_atom (calls c.args.rule) (element_of x) ≡ true = sym c.is_plain_call.ensures ∙ c.if-is_plain_call.true in
    found_at (calls c.args.rule) is_silent xs (c.loop-place.place - 1) x within c.index-elements-place.is own
    (call_is_not_silent c.args.rule (element_of x) own)
    (subst (λ (m : ℕ). IsPassed (calls c.args.rule) is_silent (in_order (map element_of (drop m xs)))) next c.loop-place.invariant)

pub returns-then-not-is_silent_element-clause-last : goal.returns-then-not-is_silent_element-clause-last
returns-then-not-is_silent_element-clause-last c =
    let xs = c.args.elements.now in
    let x = c.index-elements-place.result in
    let next : c.loop-place.place ≡ c.loop-place.place - 1 + 1 = omega arith in
    let within : c.loop-place.place - 1 < length xs = omega arith in
    let other : is_atom (calls c.args.rule) (element_of x) ≡ false = sym c.is_plain_call.ensures ∙ c.if-is_plain_call.false in
    let loud : is_atom is_silent (element_of x) ≡ false = sym c.is_silent_element.ensures ∙ c.if-not-is_silent_element.true in
    not_found_at (calls c.args.rule) is_silent xs (c.loop-place.place - 1) x within c.index-elements-place.is other loud
    (subst (λ (m : ℕ). IsPassed (calls c.args.rule) is_silent (in_order (map element_of (drop m xs)))) next c.loop-place.invariant)
