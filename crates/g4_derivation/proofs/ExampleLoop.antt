-- The network of a rule `e : e '+' e | 'a' ;` alone, where 'a' has the index 5 and '+' the index 6: where no level is passed a walk
-- reads an 'a', and over the level it goes on with '+' and another e.
use Rattle.std.proofs.Common.{◌≡◌, ℕ, List, [], ◌∷◌, false, None, Some, refl, arith}
use Rattle.g4_source.specs.Elements.{atom, block, Elements, empty, then, none, only}
use Rattle.g4_source.specs.Rules.{alternatives_of}
use Rattle.g4_grammar.specs.declared.step.Step.TheVariants as steps
use Rattle.g4_grammar.specs.StepRules.{StepRule}
use Rattle.g4_grammar.specs.Steps.{any_number}
use Rattle.g4_net.specs.declared.network.State.{State}
use Rattle.g4_net.specs.declared.network.State.TheVariants.{Decision, End, Edge, Call, Level, Empty}
use Rattle.g4_net.specs.Network.{ParserNetwork, start_of, end_of}
use Rattle.g4_layout.specs.Layout.{an_edge, a_call, a_level, an_empty, a_star, no_more, one_more, no_other, another, of_one, no_rule, a_rule, IsNetworkOf}
use Rattle.g4_leftrec.specs.Rewriting.{StepIn, Written, formed}
use Rattle.g4_derivation.specs.Letters.{Letter, symbol, called, TakesSymbol, NamesRule}
use Rattle.g4_derivation.specs.Walks.{AnyLevel, NoLevel, WalksTo}
use Rattle.g4_derivation.proofs.Joining.{and_on, decide, one_step, then_pass}

-- an alternative without a flag
abbrev plain : Elements StepIn → Written
plain x = record { right = false; elements = x; label = None }

-- e '+' e
abbrev sum : Elements StepIn
sum = then (atom (steps.Call 0 0)) (then (atom (steps.Edge (6 ∷ []))) (then (atom (steps.Call 0 0)) empty))

-- 'a'
abbrev letter : Elements StepIn
letter = then (atom (steps.Edge (5 ∷ []))) empty

-- the rule as it is written, which is rule 0 here
abbrev rule : StepRule
rule = record { name = []; alternatives = plain sum ∷ plain letter ∷ [] }

-- the operator as it is laid
abbrev turn : Elements StepIn
turn = then (atom (steps.Level 2)) (then (atom (steps.Edge (6 ∷ []))) (then (atom (steps.Call 0 3)) empty))

-- the rule as it is laid
abbrev laid : Elements StepIn
laid = then (atom (steps.Edge (5 ∷ []))) (then (atom steps.Empty) (then (block None any_number (only turn)) empty))

-- it is the rewritten rule
pub is_rewritten : alternatives_of (formed (0, rule)) ≡ only laid
is_rewritten = refl

-- the states of the rule
abbrev states : List (State (List ℕ))
states = Edge (5 ∷ []) 2 ∷ End 0 ∷ Empty 3 ∷ Decision (4 ∷ 8 ∷ []) ∷ Level 2 5 ∷ Edge (6 ∷ []) 6 ∷ Call 0 3 7 ∷ Empty 3 ∷ Empty 1 ∷ []

-- its network
abbrev net : ParserNetwork
net = record { states = states; callers = (7 ∷ []) ∷ []; written = 2 ∷ 0 ∷ 0 ∷ 0 ∷ 1 ∷ 0 ∷ 0 ∷ 0 ∷ 0 ∷ [] }

-- it is the rule's
pub is_network : IsNetworkOf (only laid ∷ []) net
is_network = record {
  lie = a_rule 0 2 9 9 (only laid) []
      (of_one 0 8 2 9 laid
      (one_more (atom (steps.Edge (5 ∷ []))) _ 0 2 8 2 3 9 (an_edge (5 ∷ []) 0 2 refl)
      (one_more (atom steps.Empty) _ 2 3 8 3 4 9 (an_empty 2 3 refl)
      (one_more (block None any_number (only turn)) empty 3 8 8 4 9 9
      (a_star None _ (only turn) (4 ∷ []) (7 ∷ []) 3 4 8 refl
      (another turn none 7 4 8 8 [] []
      (one_more (atom (steps.Level 2)) _ 4 5 7 5 6 8 (a_level 2 4 5 refl)
      (one_more (atom (steps.Edge (6 ∷ []))) _ 5 6 7 6 7 8 (an_edge (6 ∷ []) 5 6 refl)
      (one_more (atom (steps.Call 0 3)) empty 6 7 7 7 8 8 (a_call 0 3 6 7 refl) (no_more 7 8)))) (no_other 8)) (refl, tt))
      (no_more 8 9)))) refl) refl (no_rule 1 9);
  written = refl;
}

module _ (Passes : ℕ → Type 0) where
  -- a walk from one state to another
  abbrev Goes : ℕ → ℕ → List Letter → Type 0
  Goes = WalksTo TakesSymbol NamesRule Passes net

  -- 'a' is read up to the turns
  primary : Goes 0 3 (symbol 5 ∷ [])
  primary = then_pass TakesSymbol NamesRule Passes net
      (one_step TakesSymbol NamesRule Passes net (Some (Edge (5 ∷ []) 2)) refl (refl, (symbol 5, (0, omega arith, refl), refl))) refl

  -- no more turns are taken
  leave : Goes 3 1 []
  leave = decide TakesSymbol NamesRule Passes net (4 ∷ 8 ∷ []) refl (1, omega arith, refl)
      (one_step TakesSymbol NamesRule Passes net (Some (Empty 1)) refl (refl, refl))

  -- a turn, where its level is passed
  one_turn : Passes 2 → Goes 3 3 (symbol 6 ∷ called 0 ∷ [])
  one_turn passes =
      let level : Goes 4 5 [] = one_step TakesSymbol NamesRule Passes net (Some (Level 2 5)) refl (refl, (passes, refl)) in
      let plus : Goes 5 6 (symbol 6 ∷ []) = one_step TakesSymbol NamesRule Passes net (Some (Edge (6 ∷ []) 6)) refl
      (refl, (symbol 6, (0, omega arith, refl), refl)) in
      let operand : Goes 6 7 (called 0 ∷ []) = one_step TakesSymbol NamesRule Passes net (Some (Call 0 3 7)) refl
      (refl, (called 0, refl, refl)) in
      decide TakesSymbol NamesRule Passes net (4 ∷ 8 ∷ []) refl (0, omega arith, refl)
      (and_on TakesSymbol NamesRule Passes net level
      (and_on TakesSymbol NamesRule Passes net plus (then_pass TakesSymbol NamesRule Passes net operand refl) refl) refl)

-- where no level is passed, 'a' is read
pub one_letter : Goes NoLevel (start_of 0) (end_of 0) (symbol 5 ∷ [])
one_letter = and_on TakesSymbol NamesRule NoLevel net (primary NoLevel) (leave NoLevel) refl

-- where each level is passed, 'a' '+' e is read too
pub a_sum : Goes AnyLevel (start_of 0) (end_of 0) (symbol 5 ∷ symbol 6 ∷ called 0 ∷ [])
a_sum = and_on TakesSymbol NamesRule AnyLevel net (primary AnyLevel)
    (and_on TakesSymbol NamesRule AnyLevel net (one_turn AnyLevel tt) (leave AnyLevel) refl) refl
