-- Which token lists have a tree: those that the rules derive, as they are run.
use Rattle.std.proofs.Common.{◌≡◌, ◌⊎◌, ℕ, ◌+◌, ◌*◌, List, length, refl}
use Rattle.g4_derivation.proofs.Derived.{built_spells}
use Rattle.g4_derivation.proofs.Returning.{has_loops}
use Rattle.g4_derivation.specs.Spelling.{DerivesFrom}
use Rattle.g4_grammar.specs.StepRules.{AreUnpredicated, CanBeRewritten, StepRule}
use Rattle.g4_grammar.specs.Steps.{added_rule}
use Rattle.g4_grammar.specs.declared.step.Numbering.{Numbering}
use Rattle.g4_layout.specs.Built.{IsBuilt}
use Rattle.g4_layout.specs.Rules.{rule_number}
use Rattle.g4_leftrec.proofs.Unpredicated.{network_unpredicated}
use Rattle.g4_leftrec.specs.Rewriting.{numberings, rewritten}
use Rattle.g4_net.specs.AddedRule.{IsReady}
use Rattle.g4_net.specs.Network.{ParserNetwork}
use Rattle.g4_run.specs.Running.{Ending, Ends, Values, parsed, too_deep, deepest}
use Rattle.g4_run.proofs.Levelled.{word_ends}
use Rattle.g4_run.proofs.Spelled.{tree_is_spelled}
use Rattle.g4_tokens.specs.TokenList.{EndsInEnd}
use Rattle.g4_trees.specs.Trees.{Tree}

-- a token list that has a tree is derived
pub tree_derives : (set : List ℕ) (rules : List StepRule) (numbers : List Numbering) (start : List ℕ) (net : ParserNetwork)
    (values : Values) (word : List ℕ) (tree : Tree) →
    IsBuilt set rules numbers start net → EndsInEnd word → Ends net values word (parsed tree) → DerivesFrom set rules start word
tree_derives set rules numbers start net values word tree built once run =
    let ready : IsReady net = (rule_number rules start, 2 * length rules + 2, set, built.runnable) in
    (built_spells set rules numbers start net built 0 (added_rule set (rule_number rules start)) refl word).0
    (tree_is_spelled net values word deepest tree ready once run)

-- one that is derived has a tree, or too many rules are open, where no rule has a predicate
pub derived_ends : (set : List ℕ) (rules : List StepRule) (start : List ℕ) (net : ParserNetwork) (values : Values) (word : List ℕ)
    (ending : Ending) → CanBeRewritten rules → AreUnpredicated rules → IsBuilt set (rewritten rules) (numberings rules) start net
    → DerivesFrom set (rewritten rules) start word → Ends net values word ending →
    ((tree : Tree) × (ending ≡ parsed tree)) ⊎ ((at : ℕ) × (ending ≡ too_deep at))
derived_ends set rules start net values word ending can none built derived run =
    let run_rules = rewritten rules in
    let ready : IsReady net = (rule_number run_rules start, 2 * length run_rules + 2, set, built.runnable) in
    let spelled = (built_spells set run_rules (numberings rules) start net built 0
    (added_rule set (rule_number run_rules start)) refl word).1 derived in
    let unpredicated = network_unpredicated set rules start net can none built in
    word_ends net ready (has_loops set rules start net can built) unpredicated values word deepest ending spelled run
