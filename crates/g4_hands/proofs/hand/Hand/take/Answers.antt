use Rattle.std.proofs.Common.{◌≡◌, List, MatchOption, length, sym, ap, ◌∙◌, subst}
use Rattle.g4_hands.specs.Reaches.{Reach}
use Rattle.g4_hands.specs.Hands.{IsHand, TookOne, WereEmpty}
use Rattle.g4_hands.proofs.Lists.{written}
use Rattle.g4_hands.proofs.Holdings.{answer, still_hand, still_long}
use Rattle.g4_hands.proofs.hand.Hand.take.Goals as goal

-- what `take_in_turn` did, of the seats as they were and are
pub invariant_of-self : goal.invariant_of-self
invariant_of-self g c =
    let before : List Reach = c.self.inside.seats.items in
    let now : List Reach = c.take_in_turn.new.seats in
    let did : MatchOption c.take_in_turn.result ((now ≡ before) × WereEmpty 0 (length before) before) (TookOne before now) =
    subst (λ (l : List Reach). MatchOption c.take_in_turn.result ((now ≡ l) × WereEmpty 0 (length l) l)
    (TookOne l now)) c.as_mut_slice.ensures.value c.take_in_turn.ensures in
    let long : length now ≡ c.self.inside.seats.len = still_long before now _ c.take_in_turn.result did
    ∙ (sym (ap length c.as_mut_slice.ensures.value) ∙ c.as_mut_slice.ensures.len) in
    subst (IsHand c.self.inside.files c.self.inside.number) (sym (written c.self.inside.seats.len now before long))
    (still_hand _ _ before now _ c.take_in_turn.result c.self.invariant did)

pub returns : goal.returns
returns g c =
    let before : List Reach = c.self.inside.seats.items in
    let now : List Reach = c.take_in_turn.new.seats in
    let o = c.take_in_turn.result in
    let files = c.self.inside.files in
    let number = c.self.inside.number in
    let did : MatchOption o ((now ≡ before) × WereEmpty 0 (length before) before) (TookOne before now) =
    subst (λ (l : List Reach). MatchOption o ((now ≡ l) × WereEmpty 0 (length l) l)
    (TookOne l now)) c.as_mut_slice.ensures.value c.take_in_turn.ensures in
    let long : length now ≡ c.self.inside.seats.len = still_long before now _ o did
    ∙ (sym (ap length c.as_mut_slice.ensures.value) ∙ c.as_mut_slice.ensures.len) in
    rw (written c.self.inside.seats.len now before long)
    (answer files number before now c.args.self.now o c.self.view_is c.self.invariant did)
