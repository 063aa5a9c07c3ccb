use Rattle.std.proofs.Common.{◌≡◌, ◌++◌, ◌∷◌, [], ℕ, List, length, sym, ap, ◌∙◌, subst, arith, length-append}
use Rattle.g4_hands.specs.Reaches.{DequeId, Reach}
use Rattle.g4_hands.specs.Rows.{AreRows, AreSeated}
use Rattle.g4_hands.proofs.Rows.{more_seats}
use Rattle.g4_hands.proofs.Lists.{written}
use Rattle.g4_hands.proofs.deal.dealt_rows.Goals as goal

pub loop-hand-preserved : goal.loop-hand-preserved
loop-hand-preserved c =
    let h = c.loop-hand.invariant in
    let files = c.args.files in
    let jobs = c.args.jobs in
    let names : List DequeId = h.0 in
    let name : DequeId = c.in_ok-pile.pile.deque in
    let rows = c.loop-hand.rows.items in
    let now = c.share_out.new.rows in
    let same = c.as_mut_slice.ensures.value in
    let many : length rows ≡ jobs = h.2.long in
    let seated : AreSeated files jobs (length names) name rows now =
    subst (λ (j : ℕ). AreSeated files j (length names) name rows now) many
    (subst (λ (d : ℕ). AreSeated files (length rows) d name rows now) (sym h.1)
    (subst (λ (l : List (List Reach)). AreSeated files (length l) c.loop-hand.hand name l now) same c.in_ok-share_out.ensures)) in
    let long : length now ≡ c.loop-hand.rows.len = seated.long ∙ (sym (ap length same) ∙ c.as_mut_slice.ensures.len) in (
      names ++ name ∷ [],
      omega (arith, h.1, length-append names (name ∷ [])),
      subst (AreRows files jobs (names ++ name ∷ [])) (sym (written c.loop-hand.rows.len now rows long))
          (more_seats files jobs names name rows now h.2 seated),
    )
