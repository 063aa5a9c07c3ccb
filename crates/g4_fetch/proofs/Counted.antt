-- Counts of faults and misses over one call and then another.
use Rattle.std.proofs.Common.{◌≡◌, ◌≤◌, ℕ, Result, Ok, Err, subst, ◌∙◌, arith}
use Rattle.g4_ports.specs.Ports.{Rose}
use Rattle.g4_fetch.specs.Counting.{Counts, HaltCounts, StopMisses}
use Rattle.g4_fetch.specs.declared.stop.Stop.{Stop}
use Rattle.g4_fetch.specs.declared.stop.Stop.TheVariants as stops
use Rattle.g4_fetch.specs.declared.stop.Halt.{Halt}
use Rattle.g4_fetch.specs.declared.stop.Halt.TheVariants as halts

-- from a count that is no greater, it has risen too
rose_from : (a b c : ℕ) → a ≤ b → Rose b c → Rose a c
rose_from a b c less rose = grind (arith, less, rose.0, rose.1)

misses_from : (a b c : ℕ) (stop : Stop) → a ≤ b → StopMisses b c stop → StopMisses a c stop
misses_from a b c (stops.Absent name) less counts = rose_from a b c less counts
misses_from a b c (stops.TooLarge name size) less counts = rose_from a b c less counts
misses_from a b c (stops.Unreadable name fault) less counts = omega (arith, less, counts)

-- a call that halts after one that did not
pub counts_from : (f g h m n o : ℕ) (halt : Halt) → g ≡ f → m ≤ n → HaltCounts g h n o halt → HaltCounts f h m o halt
counts_from f g h m n o (halts.Stop stop) same less counts = (counts.0 ∙ same, misses_from m n o stop less counts.1)
counts_from f g h m n o halts.Failed same less counts =
    (subst (λ (k : ℕ). Rose k h) same counts.0, omega (arith, less, counts.1))
counts_from f g h m n o halts.NoMemory same less counts = (counts.0 ∙ same, omega (arith, less, counts.1))

-- a call that counts nothing after one that did
pub counts_after : {X : Type 0} (f g m n : ℕ) → g ≡ f → m ≤ n → (r : Result X Halt) → Counts g g n n r → Counts f g m n r
counts_after f g m n same less (Ok x) counts = (same, less)
counts_after f g m n same less (Err halt) counts = counts_from f g g m n n halt same less counts

-- a call after another
pub counts_over : {X : Type 0} (f g h m n o : ℕ) → g ≡ f → m ≤ n → (r : Result X Halt) → Counts g h n o r → Counts f h m o r
counts_over f g h m n o same less (Ok x) counts = (counts.0 ∙ same, omega (arith, less, counts.1))
counts_over f g h m n o same less (Err halt) counts = counts_from f g h m n o halt same less counts
