-- What looking so far ahead with full stacks comes to.
use Rattle.std.specs.Prelude.{◌≤◌, ℕ, List, Bool, true, false, Option, Some, None, length}
use Rattle.g4_fits.specs.Fitting.{Fits}
use Rattle.g4_net.specs.Configurations.{above_bottom}
use Rattle.g4_net.specs.Network.{ParserNetwork, IsFirst}
use Rattle.g4_net.specs.Prediction.{Full}
use Rattle.g4_full.specs.declared.full.Ahead.{Ahead}
use Rattle.g4_full.specs.declared.full.Ahead.TheVariants as aheads
use Rattle.g4_full.specs.declared.full.Settled.TheVariants as settleds
use Rattle.g4_full.specs.declared.shown.Shown.{Shown}
use Rattle.g4_full.specs.declared.shown.Shown.TheVariants.{Nothing, Chosen, Open}
use Rattle.g4_full.specs.Settled.{choice_of}

-- i can be the least of these alternatives of the decision that fits: it is one of them, and each of them that fits is no less
pub record IsCandidate (net : ParserNetwork) (d : ℕ) (A : ℕ → Type 0) (returns w : List ℕ) (i : ℕ) : Type 0 where
  pub allowed : A i
  pub begins : (t : ℕ) × IsFirst net d i t
  pub least : (j : ℕ) → A j → Fits net d j returns w → i ≤ j

-- what is settled is what full stacks say, and an alternative that is settled, or the least that is left after as many symbols as may be
-- looked at, can be the least that fits
abbrev pub IsAhead : ParserNetwork → ℕ → (ℕ → Type 0) → List ℕ → List ℕ → ℕ → Ahead → Type 0
IsAhead net d A returns w most (aheads.Settled (settleds.Chosen i)) =
    Full net d A (above_bottom returns) w (choice_of (settleds.Chosen i)) × IsCandidate net d A returns w i
IsAhead net d A returns w most (aheads.Settled (settleds.NoViable k)) =
    Full net d A (above_bottom returns) w (choice_of (settleds.NoViable k))
IsAhead net d A returns w most (aheads.Open i) = (most ≤ length w) × IsCandidate net d A returns w i

-- the alternative that is settled or left
abbrev pub alternative_of : Ahead → Option ℕ
alternative_of (aheads.Settled (settleds.Chosen i)) = Some i
alternative_of (aheads.Settled (settleds.NoViable k)) = None
alternative_of (aheads.Open i) = Some i

-- what looking ahead comes to where this is shown by the set after symbol k, if it ends there, which it does at the last symbol
abbrev pub ahead_by : ℕ → Bool → Shown → Option Ahead
ahead_by k last Nothing = Some (aheads.Settled (settleds.NoViable k))
ahead_by k last (Chosen i) = Some (aheads.Settled (settleds.Chosen i))
ahead_by k true (Open i) = Some (aheads.Open i)
ahead_by k false (Open i) = None
