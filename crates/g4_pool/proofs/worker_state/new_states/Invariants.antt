use Rattle.std.proofs.Common.{◌≡◌, ◌+◌, length, map}
use Rattle.g4_pool.specs.Files.{first_copies, first_pass}
use Rattle.g4_pool.proofs.worker_state.new_states.Given as goal

abbrev pub invariant-loop : goal.invariant-loop
invariant-loop g l =
    (length l.states.items ≡ l.counter)
    × (l.pass ≡ first_pass (l.counter + 1))
    × (map (λ s. s.pass) l.states.items ≡ first_copies l.counter)
