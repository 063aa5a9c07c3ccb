-- When an alternative covers the others of a set: where these go on, it goes on too.
use Rattle.std.specs.Prelude.{◌≡◌, ℕ, List, ◌++◌, All}
use Rattle.g4_net.specs.Configurations.{Config, config}
use Rattle.g4_net.specs.Lookahead.{TakesBy}
use Rattle.g4_net.specs.Network.{ParserNetwork, state_at}
use Rattle.g4_lookahead.specs.Ways.{EndsAtOnce}

-- The longer list of return states has some more somewhere in the shorter, at each of which the rule can end at once.
pub record Extends (net : ParserNetwork) (longer shorter : List ℕ) : Type 0 where
  pub above : List ℕ
  pub more : List ℕ
  pub below : List ℕ
  pub longer_is : longer ≡ above ++ more ++ below
  pub shorter_is : shorter ≡ above ++ below
  pub ends : All (EndsAtOnce net) more

-- the set has the configuration for the alternative too, with the same return states or more of that kind
abbrev pub HasExtended : ParserNetwork → (Config → Type 0) → ℕ → Config → Type 0
HasExtended net C i c = (longer : List ℕ) × C (config c.state i (record { returns = longer; wild = c.stack.wild }))
    × Extends net longer c.stack.returns

-- the alternative covers all of the set
abbrev pub Covers : ParserNetwork → (Config → Type 0) → ℕ → Type 0
Covers net C i = (c : Config) → C c → HasExtended net C i c

-- the configurations of the set whose edges take the symbol
abbrev pub Takers : ParserNetwork → (Config → Type 0) → ℕ → Config → Type 0
Takers net C a c = C c × ((t : ℕ) × TakesBy (state_at net c.state) a t)
