-- The numbers that are written at the states of a parser's rules.
use Rattle.std.specs.Prelude.{◌≡◌, ℕ, List, length}
use Rattle.g4_grammar.specs.declared.step.Numbering.{Numbering}
use Rattle.g4_net.specs.declared.network.Network.{Network}
use Rattle.g4_net.specs.declared.network.State.{State}
use Rattle.g4_states.specs.Numberings.{HaveNumbers}

-- all numbers are written, the states after the starts and ends being those from n on
pub record AllAreWritten {L : Type 0} (states : List (State L)) (written : List ℕ) (n : ℕ) (ends : List ℕ)
    (numberings : List Numbering) : Type 0 where
  pub size : length written ≡ length states
  pub numbered : (net : Network L) → net.states ≡ states → net.written ≡ written → HaveNumbers net 0 n ends numberings
