-- The network of a parser's rules, once it is drawn.
use Rattle.std.specs.Prelude.{◌≡◌, ℕ, ◌+◌, ◌*◌, List, [], ◌∷◌, length, map}
use Rattle.g4_tokens.specs.Symbols.{end_of_list}
use Rattle.g4_source.specs.Rules.{alternatives_of}
use Rattle.g4_grammar.specs.declared.step.Numbering.{Numbering}
use Rattle.g4_grammar.specs.Steps.{added_rule}
use Rattle.g4_grammar.specs.StepRules.{StepRule}
use Rattle.g4_net.specs.declared.network.State.{State}
use Rattle.g4_net.specs.declared.network.State.TheVariants.{Decision, Edge, Empty}
use Rattle.g4_net.specs.Network.{ParserNetwork}
use Rattle.g4_layout.specs.Callers.{callers_of}
use Rattle.g4_layout.specs.Layout.{IsNetworkOf}
use Rattle.g4_layout.specs.Numbers.{AreNumbered, added_numbering}
use Rattle.g4_layout.specs.Rules.{state_count}

-- the states of the added rule after its call, from n on
abbrev pub added_states : List ℕ → ℕ → List (State (List ℕ))
added_states set n =
    Decision ((n + 1) ∷ (n + 3) ∷ []) ∷ Edge set (n + 2) ∷ Empty n ∷ Edge (end_of_list ∷ []) (n + 4) ∷ Empty 1 ∷ []

-- the network of the rules with their numberings, the added rule calling this one
pub record IsDrawn (set : List ℕ) (rules : List StepRule) (numberings : List Numbering) (start : ℕ) (net : ParserNetwork) : Type 0 where
  pub network : IsNetworkOf (added_rule set start ∷ map alternatives_of rules) net
  pub size : length net.states ≡ state_count rules
  pub callers : net.callers ≡ callers_of net.states (length rules + 1)
  pub numbered : AreNumbered net 0 (2 * length rules + 2) (added_rule set start ∷ map alternatives_of rules) (added_numbering ∷ numberings)
