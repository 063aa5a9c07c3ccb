use Rattle.std.proofs.Common.{◌≡◌, ◌<◌, inl, inr, ◌∷◌, ◌++◌, [], Option, IsSome, ℕ, zero, suc, true≢false, length, ap, arith, length-append, refl, sym, subst, ◌∙◌}
use Rattle.g4_hands.specs.Hands.{Holding}
use Rattle.g4_workers.specs.Placing.{HasBegun, IsOutcomeOf, IsReady}
use Rattle.g4_workers.proofs.Placed.{all_less, all_more, all_none, get_before, get_last, begun_with, numbered, numbers_pushed}
use Rattle.g4_workers.proofs.run.workers_of.Goals.{in_default-via-in-Some+in_default, in_default-via-in_default}
use Rattle.g4_workers.proofs.run.workers_of.Goals as goal

pub loop-hand-preserved : goal.loop-hand-preserved
loop-hand-preserved g c =
    let work = c.args._work.now in
    let files = g.W.Work.files work in
    let is = g.W.Work.is_outcome work in
    let has = g.W.Work.has_done work in
    let hand = c.in-Some-Some.hand in
    let state = c.in-Some-Some.state in
    let left = c.pop.new.self.items in
    let same = c.in-Some-Some.ensures.items in
    let h = c.loop-hand.invariant in
    let fewer = c.pop-in-loop-hand.new.self.items in
    let also : c.loop-hand.states.items ≡ fewer ++ state ∷ [] = c.in-Some-Some.ensures'.items in
    let one = all_less (λ (v : Holding). v.deal.files ≡ files) c.loop-hand.hands.items left hand h.0 same in
    let none = all_none (IsOutcomeOf files is) c.new-outcomes.result.items c.new-outcomes.ensures.items in
    let shorter : suc (length left) ≡ length c.loop-hand.hands.items =
    sym (ap length same ∙ (length-append left (hand ∷ []) ∙ (omega arith))) in
    let paired : length fewer ≡ length left =
    omega (arith, h.2, ap length same, ap length also, length-append left (hand ∷ []), length-append fewer (state ∷ [])) in
    let number_is : c.len-number.result ≡ length left = c.len-number.ensures ∙ c.pop.new.self.ok.0 in
    let begun : HasBegun has (suc c.len-number.result) state =
    subst (λ (n : ℕ). HasBegun has (suc n) state) (paired ∙ sym number_is)
    (h.3 (length fewer) state (get_last c.loop-hand.states.items fewer state also)) in
    let pushed = c.in_ok-push.ensures.items in (
      one.0,
      omega (arith, shorter, h.1),
      paired,
      λ i other at. h.3 i other (get_before c.loop-hand.states.items fewer state other i also at),
      all_more (IsReady has files is) c.loop-hand.workers.items c.push.new.self.items _ h.4
          (record {
            dealt = one.1;
            outcomes = none;
            done =
                λ _. begun_with has _ c.new-outcomes.result.items state c.new-outcomes.ensures.items begun;
          }) pushed,
      λ n low. numbered c.loop-hand.workers.items c.push.new.self.items (length left) (length c.loop-hand.hands.items) c.len-number.result n
          (h.5 n low) shorter number_is (numbers_pushed c.loop-hand.workers.items c.push.new.self.items _ pushed),
    )

none_left : (len : ℕ) → (0 < len → ⊥) → len ≡ 0
none_left zero none = refl
none_left (suc len) none = absurd (none (omega arith))

pub returns-clause-numbers : goal.returns-clause-numbers
returns-clause-numbers g c n low =
    let h = c.loop-hand.invariant in
    let none : length c.loop-hand.hands.items ≡ 0 = elim c.in_default.branch [
      | in_default-via-in-Some+in_default w ↦ sym h.2 ∙ (sym c.loop-hand.states.ok.0 ∙ w.in_default.ensures'.cases.0)
      | in_default-via-in_default w ↦ sym c.loop-hand.hands.ok.0 ∙ none_left c.loop-hand.hands.len (λ some.
          true≢false (sym (subst (λ (r : Option Holding). IsSome r) w.in_default.is-0 (c.pop.ensures.variant.1 some))))
    ] in
    elim (h.5 n low) [ inl few ↦ inl (omega (arith, few, none)) | inr among ↦ inr among ]
