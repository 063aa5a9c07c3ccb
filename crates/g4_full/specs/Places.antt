-- Framed sets that are taken down: what they hold, and what they mean over the return states that are left.
use Rattle.std.specs.Prelude.{◌≡◌, ◌<◌, ℕ, List, All, Bool, true, false, Option, Some, None, length, reverse}
use Rattle.g4_frames.specs.Framed.{Meant, Over, IsDown, IsFramed}
use Rattle.g4_frames.specs.Running.{AreSame}
use Rattle.g4_net.specs.declared.network.State.{State}
use Rattle.g4_net.specs.declared.network.State.TheVariants.{Decision, End, Edge, Call, Predicate, Level, Action, Empty}
use Rattle.g4_net.specs.Configurations.{Config, IsWithin}
use Rattle.g4_net.specs.Lookahead.{IsKept}
use Rattle.g4_net.specs.Network.{ParserNetwork}

-- whether the state is a rule's end
abbrev pub ends_by : Option (State (List ℕ)) → Bool
ends_by (Some (End rule)) = true
ends_by (Some (Edge set t)) = false
ends_by (Some (Decision targets)) = false
ends_by (Some (Call rule level back)) = false
ends_by (Some (Predicate k t)) = false
ends_by (Some (Level q t)) = false
ends_by (Some (Action t)) = false
ends_by (Some (Empty t)) = false
ends_by None = false

-- The framed set means over return states what another means over those that are left, newest last, and nothing of that is at the hole,
-- or none is left.
pub record IsLoweredTo (net : ParserNetwork) (F : Config → Type 0) (returns : List ℕ) (G : Config → Type 0) (below : List ℕ) : Type 0 where
  pub same : AreSame (Meant net F returns) (Meant net G (reverse below))
  pub down : IsDown net G (reverse below)
  pub framed : IsFramed net G
  pub within : (c : Config) → G c → IsWithin net c
  pub states : All (λ t. t < length net.states) below

-- All of the set is kept and above a hole. It is within the network, and so are the return states below the hole.
pub record IsPlace (net : ParserNetwork) (G : Config → Type 0) (below : List ℕ) : Type 0 where
  pub bottomed : (c : Config) → G c → c.stack.wild ≡ false
  pub kept : (c : Config) → G c → IsKept net c
  pub within : (c : Config) → G c → IsWithin net c
  pub states : All (λ t. t < length net.states) below

-- What the framed set means over return states is another set over those that are left, newest last.
pub record IsTakenDown (net : ParserNetwork) (F : Config → Type 0) (returns : List ℕ) (G : Config → Type 0) (below : List ℕ) : Type 0 where
  pub place : IsPlace net G below
  pub same : AreSame (Meant net F returns) (Over (reverse below) G)
