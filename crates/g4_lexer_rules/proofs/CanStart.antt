-- In the network of the rules each rule can start.
use Rattle.std.proofs.Common.{◌≡◌, ℕ, ◌+◌, ◌≤◌, List, [], ◌∷◌, length, map, sum_by, All, Some, sym, ◌∙◌, ap, arith}
use Rattle.std.proofs.lemmas.List.Elements.{All-head, All-tail}
use Rattle.std.proofs.lemmas.List.Sums.{sum_by-cons}
use Rattle.g4_source.specs.Elements.{Alternatives}
use Rattle.g4_grammar.specs.declared.step.Step.{Step}
use Rattle.g4_net.specs.declared.network.Network.{Network}
use Rattle.g4_net.specs.declared.network.State.TheVariants.{Decision}
use Rattle.g4_net.specs.declared.network.TheConstants.{MOST_STATES}
use Rattle.g4_net.specs.Network.{state_at, start_of}
use Rattle.g4_layout.specs.Decisions.{number_of}
use Rattle.g4_layout.specs.Layout as lay
use Rattle.g4_layout.specs.Layout.{LiesAsRule, RulesLie}
use Rattle.g4_layout.specs.Size.{states_of_rule}
use Rattle.g4_layout.proofs.Sizes.{as_many, rule_size}
use Rattle.g4_ordered.specs.Network.{LexerNetwork}
use Rattle.g4_source.specs.declared.rule.LexerRule.{LexerRule}
use Rattle.g4_source.specs.Blocks.{LexerRulesAreFull}
use Rattle.g4_lexer_rules.specs.Starts.{AllCanStart}
use Rattle.g4_lexer_rules.proofs.Trees.{some_alternative, tree, tree_number}

-- a rule of several alternatives has as many edges where it starts
decided : {L : Type 0} (net : Network L) {rule n m : ℕ} {xs : Alternatives (Step L)} (targets : List ℕ) → LiesAsRule net rule xs n m
    → 2 ≤ number_of xs → state_at net (start_of rule) ≡ Some (Decision targets) → length targets ≡ number_of xs
decided net targets (lay.of_one rule last n m x l leads) several at = absurd (omega (arith, several))
decided net targets (lay.of_several rule n m xs firsts lasts two is l leads) several at =
    let same : targets ≡ firsts = cc in ap length same ∙ sym (as_many l)

-- each of these rules can start
pub all_start : (all : List LexerRule) (net : LexerNetwork) (rules : List LexerRule) {k n m : ℕ}
    → RulesLie net k (map (tree all) rules) n m → LexerRulesAreFull rules → All (λ rule. length rule.alternatives ≤ MOST_STATES) rules
    → AllCanStart net.states k rules
all_start all net [] l full few = tt
all_start all net (rule ∷ rules) (lay.a_rule k n i m xs more l end rest) full few = (
  (
    some_alternative rule.alternatives full.0.0,
    λ targets several at. omega (
      arith,
      decided net targets l (omega (arith, several, tree_number all rule)) at,
      tree_number all rule,
      All-head (λ (r : LexerRule). length r.alternatives ≤ MOST_STATES) rule rules few,
    ),
  ),
  all_start all net rules rest full.1 (All-tail (λ (r : LexerRule). length r.alternatives ≤ MOST_STATES) rule rules few),
)

-- how many states rules that are laid out have
pub rules_size : {L : Type 0} (net : Network L) (rules : List (Alternatives (Step L))) {k n m : ℕ} → RulesLie net k rules n m
    → m ≡ n + sum_by states_of_rule rules
rules_size net [] (lay.no_rule k n) = omega arith
rules_size net (xs ∷ more) (lay.a_rule k n i m _ _ l end rest) =
    omega (arith, rule_size l, rules_size net more rest, sum_by-cons states_of_rule xs more)
