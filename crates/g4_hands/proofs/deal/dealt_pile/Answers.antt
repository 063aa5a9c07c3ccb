use Rattle.std.proofs.Common.{◌≡◌, ◌<◌, ◌≤◌, ◌+◌, ◌++◌, ◌∷◌, [], ℕ, List, sym, ap, ◌∙◌, arith}
use Rattle.std.proofs.Math.Nat.{mod-eq_of_lt, add-mod_right}
use Rattle.g4_hands.specs.Dealing.{dealt}
use Rattle.g4_hands.specs.Reaches.{Reach}
use Rattle.g4_hands.specs.Shares.{all_parts, share}
use Rattle.g4_hands.specs.declared.share.Share.{Share}
use Rattle.g4_hands.proofs.Dealings.{dealt_before, dealt_until}
use Rattle.g4_hands.proofs.deal.dealt_pile.Goals as goal

pub loop-file-init : goal.loop-file-init
loop-file-init c =
    let jobs = c.args.jobs in
    let hand = c.args.hand in
    let none : (m : ℕ) → m ≤ hand → dealt jobs hand m ≡ [] = λ m le. dealt_before jobs hand m c.requires.jobs.0 le in (
      c.in_ok-pile.ensures.0,
      c.in_ok-pile.ensures.1 ∙ ap (λ (l : List ℕ). share all_parts l []) (sym (none hand (omega arith))),
      mod-eq_of_lt c.requires.jobs.0,
      omega (arith, c.requires.jobs.0),
      λ m le lt. none m le ∙ sym (none hand (omega arith)),
    )

pub loop-file-preserved : goal.loop-file-preserved
loop-file-preserved c =
    let jobs = c.args.jobs in
    let hand = c.args.hand in
    let file = c.loop-file.file in
    let h = c.loop-file.invariant in
    let until : (m : ℕ) → file < m → m ≤ file + jobs → dealt jobs hand m ≡ dealt jobs hand file ++ file ∷ [] =
    λ m lt le. dealt_until jobs hand file m h.2 lt le in
    let some : 0 < jobs = omega (arith, c.requires.jobs.0) in
    let next = until (file + jobs) (omega (arith, some)) (omega arith) in (
      ap (λ (r : Reach). r.own) c.in_ok-push.ensures ∙ h.0,
      ap (λ (r : Reach). r.share) c.in_ok-push.ensures
          ∙ (ap (λ (s : Share). share all_parts (s.dealt ++ file ∷ []) s.taken) h.1
          ∙ ap (λ (l : List ℕ). share all_parts l []) (sym next)),
      add-mod_right file jobs ∙ h.2,
      omega (arith, c.loop-file-test.true),
      λ m le lt. until m (omega (arith, lt)) le ∙ sym next,
    )
