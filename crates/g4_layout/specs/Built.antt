-- The network that rules have.
use Rattle.std.specs.Prelude.{◌≡◌, ◌≤◌, ℕ, ◌+◌, ◌*◌, List, ◌∷◌, length, map, true}
use Rattle.g4_source.specs.Rules.{alternatives_of}
use Rattle.g4_grammar.specs.declared.step.Numbering.{Numbering}
use Rattle.g4_grammar.specs.StepRules.{StepRule}
use Rattle.g4_net.specs.Network.{ParserNetwork}
use Rattle.g4_net.specs.AddedRule.{IsRunnable}
use Rattle.g4_layout.specs.Callers.{callers_of}
use Rattle.g4_layout.specs.Decisions.{AreNarrow}
use Rattle.g4_layout.specs.Layout.{IsNetworkOf}
use Rattle.g4_layout.specs.Numbers.{AreNumbered, added_numbering}
use Rattle.g4_layout.specs.Rules.{has_parser_rule, rule_number, rules_of, state_count}
use Rattle.g4_net.specs.declared.network.TheConstants.{MOST_STATES}

-- The network of the rules from a start rule, the added rule's loop taking the symbols of the set: it can be parsed with, it has
-- its callers, and the numbers of alternatives are written at its states.
pub record IsBuilt (set : List ℕ) (rules : List StepRule) (numberings : List Numbering) (start : List ℕ) (net : ParserNetwork) :
    Type 0 where
  pub known : has_parser_rule rules start ≡ true
  pub narrow : AreNarrow (map alternatives_of rules)
  pub fits : state_count rules ≤ MOST_STATES
  pub network : IsNetworkOf (rules_of set rules start) net
  pub runnable : IsRunnable net (rule_number rules start) (2 * length rules + 2) set
  pub callers : net.callers ≡ callers_of net.states (length rules + 1)
  pub numbered : AreNumbered net 0 (2 * length rules + 2) (rules_of set rules start) (added_numbering ∷ numberings)
