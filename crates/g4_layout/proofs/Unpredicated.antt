-- The network of rules without predicates has none.
use Rattle.std.proofs.Common.{◌≡◌, ◌<◌, ℕ, zero, suc, List, ◌∷◌, length, map, Some, subst, slice_get, All}
use Rattle.g4_source.specs.Elements.{Alternatives, atoms_of_either}
use Rattle.g4_source.specs.Rules.{alternatives_of}
use Rattle.g4_source.specs.Blocks.{ParserRulesAreFull}
use Rattle.g4_grammar.specs.declared.step.Numbering.{Numbering}
use Rattle.g4_grammar.specs.declared.step.Step.{Step}
use Rattle.g4_grammar.specs.StepRules.{AreUnpredicated, IsNoPredicate, StepRule}
use Rattle.g4_grammar.specs.Steps.{CallsRule, added_rule}
use Rattle.g4_net.specs.declared.network.State.{State}
use Rattle.g4_net.specs.declared.network.State.TheVariants.{Decision, End, Edge, Call, Predicate, Level, Action, Empty}
use Rattle.g4_net.specs.AddedRule.{IsUnpredicated}
use Rattle.g4_net.specs.AddedRule as states
use Rattle.g4_net.specs.Network.{ParserNetwork}
use Rattle.g4_layout.specs.Built.{IsBuilt}
use Rattle.g4_layout.specs.Rules.{rule_number, rules_of}
use Rattle.g4_layout.proofs.Laying.{full_each, of_each}
use Rattle.g4_layout.proofs.RulesSound.{state_sound}
use Rattle.g4_layout.proofs.Sound.{IsSoundState}
use Rattle.g4_layout.proofs.Trees.{EachIsSound, CallsKnown, each_sound}

-- a step that is no predicate, whatever it calls
abbrev IsOther : Step (List ℕ) → Type 0
IsOther = CallsKnown IsNoPredicate CallsRule (λ j. Unit {0})

-- a state with such a step is no predicate
state_of : (Ended Allowed : ℕ → Type 0) (s : State (List ℕ)) → IsSoundState IsOther Ended Allowed (Some s) → states.IsNoPredicate s
state_of Ended Allowed (Decision targets) h = tt
state_of Ended Allowed (End rule) h = tt
state_of Ended Allowed (Edge set t) h = tt
state_of Ended Allowed (Call rule level back) h = tt
state_of Ended Allowed (Predicate k t) h = h.0.0
state_of Ended Allowed (Level q t) h = tt
state_of Ended Allowed (Action t) h = tt
state_of Ended Allowed (Empty t) h = tt

-- no step of the added rule is a predicate, nor of these rules where none of theirs is
trees : (set : List ℕ) (start : ℕ) (rules : List StepRule) → ParserRulesAreFull rules → AreUnpredicated rules
    → (k : ℕ) (xs : Alternatives (Step (List ℕ))) → slice_get (added_rule set start ∷ map alternatives_of rules) k ≡ Some xs
    → EachIsSound IsOther xs
trees set start rules full none zero xs is = let same : added_rule set start ≡ xs = cc in
    subst (EachIsSound IsOther) same
    (((tt, λ j c. tt), ((tt, (((tt, λ j c. tt), tt), tt)), ((tt, λ j c. tt), tt))), tt)
trees set start rules full none (suc k) xs is = each_sound IsNoPredicate CallsRule (λ j. Unit {0}) xs (full_each rules full k xs is)
    (of_each (λ ys. All IsNoPredicate (atoms_of_either ys)) rules none k xs is) (λ j h. tt)

-- no state of the network of rules without predicates is one
pub unpredicated : (set : List ℕ) (rules : List StepRule) (numberings : List Numbering) (start : List ℕ) (net : ParserNetwork)
    → ParserRulesAreFull rules → AreUnpredicated rules → IsBuilt set rules numberings start net → IsUnpredicated net
unpredicated set rules numberings start net full none built p s is =
    let all = rules_of set rules start in
    state_of (λ k. k < length all) (λ q. q < length net.states) s
    (state_sound all net built.network IsOther (trees set (rule_number rules start) rules full none) p s is)
