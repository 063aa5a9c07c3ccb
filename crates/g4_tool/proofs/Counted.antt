-- How the counts of faults and misses go on past the grammar.
use Rattle.std.proofs.Common.{◌≡◌, ◌≤◌, ◌∙◌, ℕ, List, Err, subst, sym, arith}
use Rattle.g4_ports.specs.Ports.{Rose}
use Rattle.g4_load.specs.Counting.{HaltCounts, StopMisses}
use Rattle.g4_load.specs.declared.interpreter.Interpreter.{Interpreter}
use Rattle.g4_load.specs.declared.stop.Halt.{Halt}
use Rattle.g4_load.specs.declared.stop.Halt.TheVariants as halts
use Rattle.g4_load.specs.declared.stop.Stop.{Stop}
use Rattle.g4_load.specs.declared.stop.Stop.TheVariants as stops
use Rattle.g4_tool.specs.Cells.{Refuses}

-- a refusal for too many cells counts nothing
pub refused_counts : (name : List ℕ) (rows : ℕ) (interpreter : Interpreter) (halt : Halt) (f g m n : ℕ)
    → Refuses name rows interpreter (Err halt) → g ≡ f → m ≤ n → HaltCounts ⊥ f g m n halt
refused_counts name rows interpreter (halts.Stop stop) f g m n h faults misses =
    (faults, subst (λ (s : Stop). StopMisses ⊥ m n s) (sym h.1) misses)
refused_counts name rows interpreter halts.Failed f g m n h faults misses = absurd h
refused_counts name rows interpreter halts.NoMemory f g m n h faults misses = (faults, misses)

-- a stop counts from before too
misses_before : (a b c : ℕ) → a ≤ b → (stop : Stop) → StopMisses ⊥ b c stop → StopMisses ⊥ a c stop
misses_before a b c h stops.Usage k = absurd k.0
misses_before a b c h (stops.Absent name) k = (omega (arith, h, k.0), omega (arith, h, k.1))
misses_before a b c h (stops.TooLarge name size) k = (omega (arith, h, k.0), omega (arith, h, k.1))
misses_before a b c h (stops.Fault name fault) k = omega (arith, h, k)

-- and so does a halt
pub counts_before : (f g m n o : ℕ) (halt : Halt) → g ≡ f → m ≤ n → (e : ℕ) → HaltCounts ⊥ g e n o halt → HaltCounts ⊥ f e m o halt
counts_before f g m n o (halts.Stop stop) faults misses e h = (h.0 ∙ faults, misses_before m n o misses stop h.1)
counts_before f g m n o halts.Failed faults misses e h =
    (subst (λ (x : ℕ). Rose x e) faults h.0, omega (arith, misses, h.1))
counts_before f g m n o halts.NoMemory faults misses e h = (h.0 ∙ faults, omega (arith, misses, h.1))
