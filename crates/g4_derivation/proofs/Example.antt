-- The network of a rule `r : 'a'* ;` alone, where 'a' has the index 5: a walk that reads two of them, and an edge that leads
-- to the rule's start, which is no outer start.
use Rattle.std.proofs.Common.{◌≡◌, ℕ, List, [], ◌∷◌, None, Some, refl, arith}
use Rattle.g4_source.specs.Elements.{atom, block, Elements, empty, then, only}
use Rattle.g4_grammar.specs.declared.step.Step.{Step}
use Rattle.g4_grammar.specs.declared.step.Step.TheVariants as steps
use Rattle.g4_grammar.specs.Steps.{any_number}
use Rattle.g4_net.specs.declared.network.State.{State}
use Rattle.g4_net.specs.declared.network.State.TheVariants.{Decision, End, Edge, Empty}
use Rattle.g4_net.specs.Network.{ParserNetwork, state_at, start_of, end_of}
use Rattle.g4_layout.specs.Layout.{an_edge, a_star, no_more, one_more, no_other, another, of_one, no_rule, a_rule, IsNetworkOf}
use Rattle.g4_derivation.specs.Letters.{Letter, symbol, TakesSymbol, NamesRule}
use Rattle.g4_derivation.specs.Walks.{NoLevel, WalksTo}
use Rattle.g4_derivation.proofs.Joining.{and_on, decide, one_step, then_pass}

-- 'a'
abbrev letter : Elements (Step (List ℕ))
letter = then (atom (steps.Edge (5 ∷ []))) empty

-- 'a'*
abbrev loop : Elements (Step (List ℕ))
loop = then (block None any_number (only letter)) empty

-- the states of the rule: the decision of the loop is at its start
abbrev states : List (State (List ℕ))
states = Decision (2 ∷ 4 ∷ []) ∷ End 0 ∷ Edge (5 ∷ []) 3 ∷ Empty 0 ∷ Empty 1 ∷ []

-- its network
abbrev net : ParserNetwork
net = record { states = states; callers = [] ∷ []; written = 1 ∷ 0 ∷ 0 ∷ 0 ∷ 0 ∷ [] }

-- it is the rule's
pub is_network : IsNetworkOf (only loop ∷ []) net
is_network = record {
  lie = a_rule 0 2 5 5 (only loop) []
      (of_one 0 4 2 5 loop
      (one_more (block None any_number (only letter)) empty 0 4 4 2 5 5
      (a_star None _ (only letter) (2 ∷ []) (3 ∷ []) 0 2 4 refl
      (another letter _ 3 2 4 4 [] [] (one_more (atom (steps.Edge (5 ∷ []))) empty 2 3 3 3 4 4 (an_edge (5 ∷ []) 2 3 refl)
      (no_more 3 4)) (no_other 4)) (refl, tt))
      (no_more 4 5)) refl) refl (no_rule 1 5);
  written = refl;
}

-- an edge leads to the rule's start
pub back_to_start : state_at net 3 ≡ Some (Empty (start_of 0))
back_to_start = refl

-- a walk from one state to another
abbrev Goes : ℕ → ℕ → List Letter → Type 0
Goes = WalksTo TakesSymbol NamesRule NoLevel net

-- one turn of the loop
turn : Goes 0 0 (symbol 5 ∷ [])
turn =
    let edge : Goes 2 3 (symbol 5 ∷ []) = one_step TakesSymbol NamesRule NoLevel net (Some (Edge (5 ∷ []) 3)) refl
    (refl, (symbol 5, (0, omega arith, refl), refl)) in
    decide TakesSymbol NamesRule NoLevel net (2 ∷ 4 ∷ []) refl (0, omega arith, refl)
    (then_pass TakesSymbol NamesRule NoLevel net edge refl)

-- from the loop to the end
leave : Goes 0 1 []
leave = decide TakesSymbol NamesRule NoLevel net (2 ∷ 4 ∷ []) refl (1, omega arith, refl)
    (one_step TakesSymbol NamesRule NoLevel net (Some (Empty 1)) refl (refl, refl))

-- a walk from the rule's start to its end reads two letters
pub two_letters : Goes (start_of 0) (end_of 0) (symbol 5 ∷ symbol 5 ∷ [])
two_letters = and_on TakesSymbol NamesRule NoLevel net turn (and_on TakesSymbol NamesRule NoLevel net turn leave refl) refl
