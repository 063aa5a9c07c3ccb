-- A network that is drawn is the one that the rules have.
use Rattle.std.proofs.Common.{◌≡◌, ℕ, zero, suc, ◌+◌, ◌*◌, ◌<◌, ◌≤◌, ◌⊎◌, ◌↔◌, inl, inr, List, [], ◌∷◌, length, map, Bool, true, false, subst, arith, Some, Contains, IsTrue}
use Rattle.std.specs.List.{position}
use Rattle.std.specs.Str.{bytes_eq}
use Rattle.g4_tokens.specs.Symbols.{eof, end_of_list}
use Rattle.g4_source.specs.Rules.{alternatives_of}
use Rattle.g4_grammar.specs.declared.step.Numbering.{Numbering}
use Rattle.g4_grammar.specs.Steps.{added_rule}
use Rattle.g4_grammar.specs.StepRules.{StepRule}
use Rattle.g4_net.specs.Network.{ParserNetwork}
use Rattle.g4_net.specs.AddedRule.{IsRunnable}
use Rattle.g4_layout.specs.Built.{IsBuilt}
use Rattle.g4_layout.specs.Callers.{callers_of}
use Rattle.g4_layout.specs.Decisions.{AreNarrow}
use Rattle.g4_layout.specs.Layout.{IsNetworkOf}
use Rattle.g4_layout.specs.Numbers.{AreNumbered, added_numbering}
use Rattle.g4_layout.specs.Rules.{rule_number, rules_of, state_count}
use Rattle.g4_build.specs.Rules.{IsDrawn}
use Rattle.g4_build.proofs.Named.{known_at}
use Rattle.g4_net.specs.declared.network.TheConstants.{MOST_STATES}

-- a test that fails leaves too many
pub too_many : (b : Bool) (n : ℕ) → b ≡ false → IsTrue b ↔ n ≤ MOST_STATES → MOST_STATES < n
too_many b n is test = elim (cut n 65536) [ inl low ↦ absurd (let e : b ≡ true = test.1 low in let k : ⊥ = cc in k) | inr high ↦ high ]
  where
    cut : (n m : ℕ) → (n ≤ m) ⊎ (m < n)
    cut n m = grind arith

-- a test that holds leaves few enough
pub few_enough : (b : Bool) (n : ℕ) → b ≡ true → IsTrue b ↔ n ≤ MOST_STATES → n ≤ MOST_STATES
few_enough b n is test = test.0 is

-- the set of EOF alone does not have END
pub eof_alone : Contains (eof ∷ []) end_of_list → ⊥
eof_alone (zero, less, is) = omega arith
eof_alone (suc k, less, is) = omega arith

-- what is drawn from the place of the start rule is built, as far as it can be parsed with
pub built : (set : List ℕ) (rules : List StepRule) (numberings : List Numbering) (start : List ℕ) (place : ℕ) (net : ParserNetwork)
    → AreNarrow (map alternatives_of rules) → position (λ rule. bytes_eq rule.name start) rules ≡ Some place
    → state_count rules ≤ MOST_STATES →
    IsDrawn set rules numberings (place + 1) net →
    (rule_number rules start ≤ length rules → IsNetworkOf (rules_of set rules start) net → length net.states ≤ MOST_STATES
    → net.callers ≡ callers_of net.states (length rules + 1) → IsRunnable net (rule_number rules start) (2 * length rules + 2) set) →
    IsBuilt set rules numberings start net
built set rules numberings start place net narrow at few drawn runs =
    let known = known_at rules start place at in
    let network : IsNetworkOf (rules_of set rules start) net =
    subst (λ (k : ℕ). IsNetworkOf (added_rule set k ∷ map alternatives_of rules) net) known.1 drawn.network in
    record {
      known = known.0;
      narrow = narrow;
      fits = few;
      network = network;
      runnable = runs (omega (arith, known.1, known.2)) network (omega (arith, drawn.size)) drawn.callers;
      callers = drawn.callers;
      numbered = subst (λ (k : ℕ). AreNumbered net 0 (2 * length rules + 2) (added_rule set k ∷ map alternatives_of rules)
          (added_numbering ∷ numberings)) known.1 drawn.numbered;
    }
