-- Rules without predicates have none as they are laid, and neither has their network.
use Rattle.std.proofs.Common.{ℕ, List}
use Rattle.g4_grammar.specs.StepRules.{AreUnpredicated, CanBeRewritten, RuleIsUnpredicated, StepRule}
use Rattle.g4_net.specs.AddedRule.{IsUnpredicated}
use Rattle.g4_net.specs.Network.{ParserNetwork}
use Rattle.g4_layout.specs.Built.{IsBuilt}
use Rattle.g4_layout.proofs.Unpredicated.{unpredicated}
use Rattle.g4_leftrec.specs.Rewriting.{numberings, rewritten}
use Rattle.g4_leftrec.proofs.Laid.{rewritten_can_be_laid}
use Rattle.g4_leftrec.proofs.Numbers.{all_formed}
use Rattle.g4_leftrec.proofs.Plainness.{formed_unpredicated}

-- the rules as they are laid have no predicate, where they have none as they are written
pub rewritten_unpredicated : (rules : List StepRule) → AreUnpredicated rules → AreUnpredicated (rewritten rules)
rewritten_unpredicated rules none = all_formed RuleIsUnpredicated RuleIsUnpredicated formed_unpredicated 1 rules none

-- so has their network none
pub network_unpredicated : (set : List ℕ) (rules : List StepRule) (start : List ℕ) (net : ParserNetwork) → CanBeRewritten rules
    → AreUnpredicated rules → IsBuilt set (rewritten rules) (numberings rules) start net → IsUnpredicated net
network_unpredicated set rules start net can none built =
    let laid = rewritten_can_be_laid rules can in
    unpredicated set (rewritten rules) (numberings rules) start net laid.full (rewritten_unpredicated rules none) built
