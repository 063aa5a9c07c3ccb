use Rattle.std.proofs.Common.{◌≡◌, ◌∷◌, [], ℕ, MatchOption, Some, length, set, slice_get, refl, sym, ap, ◌∙◌, subst, arith}
use Rattle.std.proofs.lemmas.Option.{slice_get_read}
use Rattle.g4_hands.specs.Reaches.{Reach, having}
use Rattle.g4_hands.specs.Shares.{IsFirst, WasEmpty}
use Rattle.g4_hands.proofs.Lists.{same_set}
use Rattle.g4_hands.proofs.Holdings.{each_case}
use Rattle.g4_hands.proofs.hand.take_at.Goals as goal

pub returns : goal.returns
returns g c =
    let seats = c.args.seats.now in
    let k = c.args.deque in
    let seat : Reach = c.index-seats-deque.result in
    let here : slice_get seats k ≡ Some seat = slice_get_read seats (length seats) k seat refl c.requires.range c.index-seats-deque.is in
    let now : Reach = c.take.new.self in
    let Did : Reach → Type 0 = λ r. MatchOption c.take.result ((now ≡ r) × WasEmpty r.share)
    (λ file. (now ≡ having r file) × IsFirst r.share (file ∷ [])) in
    let did : Did seat = subst Did (sym c.index-seats-deque.is) c.take.ensures in
    each_case c.take.result
    (λ h. (
      same_set seats k seat c.take.new.self h.0 c.index-seats-deque.is,
      λ d r ge lt at. (
          let e : k ≡ d = omega (arith, ge, lt) in
          let one : seat ≡ r = (let f : Some seat ≡ Some r = sym here ∙ (ap (λ (i : ℕ). slice_get seats i) e ∙ at) in cc) in
          subst (λ (x : Reach). WasEmpty x.share) one h.1),
    ))
    (λ file h. record { deque = k; seat = seat; at = here; next = h.1; is = ap (λ (r : Reach). set seats k r) h.0 })
    did
