-- What SLL comes to from the decisions of a network.
use Rattle.std.specs.Prelude.{ℕ, List}
use Rattle.g4_net.specs.Allowed.{Allows}
use Rattle.g4_net.specs.declared.allowed.Allowed.TheVariants.{Every}
use Rattle.g4_net.specs.Configurations.{Config, wildcard}
use Rattle.g4_net.specs.Lookahead.{Start}
use Rattle.g4_net.specs.Network.{ParserNetwork}
use Rattle.g4_lookahead.specs.EndOfList.{After}

-- SLL comes to the configuration: it is in the set after some word from the start set of some decision, over all alternatives
abbrev pub IsReached : ParserNetwork → Config → Type 0
IsReached net c = (d : ℕ) × (w : List ℕ) × After net (Start net d (Allows Every) wildcard) w c
