-- How the added rule is laid out at the front of a network.
use Rattle.std.proofs.Common.{◌≡◌, ℕ, ◌+◌, List, [], ◌∷◌, None, Some, subst, arith}
use Rattle.g4_tokens.specs.Symbols.{end_of_list}
use Rattle.g4_source.specs.Elements.{atom, block, Elements, empty, then, none, or}
use Rattle.g4_grammar.specs.declared.step.Step.{Step}
use Rattle.g4_grammar.specs.declared.step.Step.TheVariants as steps
use Rattle.g4_grammar.specs.Steps.{added_rule, any_number}
use Rattle.g4_net.specs.declared.network.State.TheVariants.{Decision, End, Edge, Call, Empty}
use Rattle.g4_net.specs.AddedRule.{HasAddedRule}
use Rattle.g4_net.specs.Network.{ParserNetwork, state_at, start_of, end_of}
use Rattle.g4_layout.specs.Layout.{an_edge, a_call, a_star, LieInOrder, no_more, one_more, no_other, another, LiesAsRule, of_one, of_several}
use Rattle.g4_layout.proofs.Spans.{one_first}

-- the elements of the added rule from s to last, whose other states are those from n up to m
record AddedLies (net : ParserNetwork) (set : List ℕ) (start s last n m : ℕ) : Type 0 where
  call : state_at net s ≡ Some (Call start 0 n)
  turn_or_leave : state_at net n ≡ Some (Decision ((n + 1) ∷ (n + 3) ∷ []))
  turn : state_at net (n + 1) ≡ Some (Edge set (n + 2))
  again : state_at net (n + 2) ≡ Some (Empty n)
  leave : state_at net (n + 3) ≡ Some (Edge (end_of_list ∷ []) (n + 4))
  last_is : last ≡ n + 4
  after : m ≡ n + 5

-- the numbers of the states as they are made
added_lies : {net : ParserNetwork} (set : List ℕ) (start s n : ℕ) → state_at net s ≡ Some (Call start 0 n)
    → state_at net n ≡ Some (Decision ((n + 1) ∷ (((n + 1) + 1) + 1) ∷ [])) →
    state_at net (n + 1) ≡ Some (Edge set ((n + 1) + 1)) → state_at net ((n + 1) + 1) ≡ Some (Empty n) →
    state_at net (((n + 1) + 1) + 1) ≡ Some (Edge (end_of_list ∷ []) ((((n + 1) + 1) + 1) + 1))
    → AddedLies net set start s ((((n + 1) + 1) + 1) + 1) n (((((n + 1) + 1) + 1) + 1) + 1)
added_lies {net} set start s n called decides takes back leaves =
    let two : (n + 1) + 1 ≡ n + 2 = omega arith in
    let three : ((n + 1) + 1) + 1 ≡ n + 3 = omega arith in
    let four : (((n + 1) + 1) + 1) + 1 ≡ n + 4 = omega arith in
    record {
      call = called;
      turn_or_leave = subst (λ (q : ℕ). state_at net n ≡ Some (Decision ((n + 1) ∷ q ∷ []))) three decides;
      turn = subst (λ (q : ℕ). state_at net (n + 1) ≡ Some (Edge set q)) two takes;
      again = subst (λ (q : ℕ). state_at net q ≡ Some (Empty n)) two back;
      leave = subst (λ (q : ℕ). state_at net (n + 3) ≡ Some (Edge (end_of_list ∷ []) q)) four
          (subst (λ (q : ℕ). state_at net q ≡ Some (Edge (end_of_list ∷ []) ((((n + 1) + 1) + 1) + 1))) three leaves);
      last_is = four;
      after = omega arith;
    }

-- the elements of the added rule, by the table of forms
in_order_added : {net : ParserNetwork} {set : List ℕ} {start s n last m : ℕ} →
    LieInOrder net (then (atom (steps.Call start 0))
    (then (block None any_number (or (then (atom (steps.Edge set)) empty) none))
    (then (atom (steps.Edge (end_of_list ∷ []))) empty))) s last n m →
    AddedLies net set start s last n m
in_order_added (one_more _ _ s _ _ _ _ _ (a_call start _ _ n called)
    (one_more _ _ _ _ _ _ _ _ (a_star _ _ _ _ _ _ _ _ decides
    (another _ _ _ _ _ _ _ _ (one_more _ _ _ _ _ _ _ _ (an_edge set _ _ takes) (no_more _ _)) (no_other _)) back)
    (one_more _ _ _ _ _ _ _ _ (an_edge _ _ _ leaves) (no_more _ _)))) = added_lies set start s n called decides takes back.0 leaves

-- one alternative begins at the start of its rule
of_only : {net : ParserNetwork} {rule n m : ℕ} {x : Elements (Step (List ℕ))} → LiesAsRule net rule (or x none) n m →
    (last : ℕ) × LieInOrder net x (start_of rule) last n m × (state_at net last ≡ Some (Empty (end_of rule)))
of_only (of_one rule last n m x l leads) = (last, l, leads)
of_only (of_several rule n m xs firsts lasts two is l a) = let one = one_first l in absurd (omega arith)

-- the added rule, whose states after the heads of the rules are the five from n on
pub added_at : {net : ParserNetwork} {set : List ℕ} {start n m : ℕ} → LiesAsRule net 0 (added_rule set start) n m
    → state_at net 1 ≡ Some (End 0) → HasAddedRule net start n set × (m ≡ n + 5)
added_at {net} l end_is =
    let o = of_only l in let a = in_order_added o.1 in (
      record {
        call = a.call;
        turn_or_leave = a.turn_or_leave;
        turn = a.turn;
        again = a.again;
        leave = a.leave;
        last = subst (λ (q : ℕ). state_at net q ≡ Some (Empty 1)) a.last_is o.2;
        end = end_is;
      },
      a.after,
    )
