use Rattle.std.proofs.Common.{◌≡◌, ◌++◌, Some, map, take}
use Rattle.g4_layout.specs.Numbers.{number_by}
use Rattle.g4_states.proofs.numbering.add_numbers.Given as goal

abbrev pub invariant-loop-state : goal.invariant-loop-state
invariant-loop-state g l = l.written.items ≡ l.initial.written.items
    ++ map (λ state. number_by l.count (Some state)) (take l.state-index l.states)
