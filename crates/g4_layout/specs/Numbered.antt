-- The network of rules with their numberings, over any labels.
use Rattle.std.specs.Prelude.{◌≡◌, ◌*◌, List, length}
use Rattle.g4_source.specs.Elements.{Alternatives}
use Rattle.g4_grammar.specs.declared.step.Numbering.{Numbering}
use Rattle.g4_grammar.specs.declared.step.Step.{Step}
use Rattle.g4_net.specs.declared.network.Network.{Network}
use Rattle.g4_layout.specs.Callers.{callers_of}
use Rattle.g4_layout.specs.Layout.{IsNetworkOf}
use Rattle.g4_layout.specs.Numbers.{AreNumbered}

-- The network of these rules, the first of which has number 0: it has their states and no others, who calls each of them, and the
-- numbers of alternatives that their numberings say.
pub record IsNumberedNetworkOf {L : Type 0} (rules : List (Alternatives (Step L))) (numberings : List Numbering) (net : Network L) :
    Type 0 where
  pub network : IsNetworkOf rules net
  pub callers : net.callers ≡ callers_of net.states (length rules)
  pub numbered : AreNumbered net 0 (2 * length rules) rules numberings
