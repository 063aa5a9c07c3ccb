use Rattle.std.proofs.Common.{◌≡◌, ◌≤◌, ◌-◌, ◌++◌, length, drop, option_map}
use Rattle.g4_chars.specs.Reading.{items, items_from}
use Rattle.g4_chars.proofs.item.read_items.Given as goal

abbrev pub invariant-loop-at : goal.invariant-loop-at
invariant-loop-at l =
    (option_map (λ more. l.out.items ++ more) (items_from 0 (drop l.at l.text)) ≡ items l.text) × (l.at ≤ length l.text)

abbrev pub decreases-loop-at : goal.decreases-loop-at
decreases-loop-at l = length l.text - l.at
