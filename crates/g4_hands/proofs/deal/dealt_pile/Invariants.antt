use Rattle.std.proofs.Common.{◌-◌, ◌≡◌, ◌≤◌, ◌<◌, ◌+◌, ◌%◌, [], ℕ, true}
use Rattle.g4_hands.specs.Dealing.{dealt}
use Rattle.g4_hands.specs.Shares.{all_parts, share}
use Rattle.g4_hands.proofs.deal.dealt_pile.Given as goal

abbrev pub invariant-loop-file : goal.invariant-loop-file
invariant-loop-file l =
    (l.pile.own ≡ true) × (l.pile.share ≡ share all_parts (dealt l.jobs l.hand l.file) [])
    × (l.file % l.jobs ≡ l.hand) × (l.file < l.files + l.jobs)
    × ((m : ℕ) → m ≤ l.file → l.file < m + l.jobs → dealt l.jobs l.hand m ≡ dealt l.jobs l.hand l.file)

abbrev pub decreases-loop-file : goal.decreases-loop-file
decreases-loop-file l = l.files - l.file
