use Rattle.std.proofs.Common.{◌≡◌, ◌∙◌, ◌↔◌, ℕ, IsTrue, List, ap, map, subst}
use Rattle.g4_stacks.specs.Canonical.{IsCanonical}
use Rattle.g4_configs.specs.Configs.{View}
use Rattle.g4_configs.specs.Groups.{AreNodes}
use Rattle.g4_configs.specs.Verdicts.{HasTwice, pair_of}
use Rattle.g4_configs.proofs.Comparing.{conflict_verdict}
use Rattle.g4_configs.proofs.configs.Configs.conflict.Goals as goal

pub returns : goal.returns
returns c =
    let canon = subst (λ (v : View). IsCanonical v.graph) c.self.view_is c.is_canonical.ensures in
    let nodes = subst (λ (v : View). AreNodes v.graph v.nodes) c.self.view_is c.self.invariant in
    let pairs : c.in_ok-pairs.pairs.items ≡ map pair_of c.in_ok-groups.groups.items =
    c.in_ok-pairs.ensures ∙ ap (map pair_of) c.deref.ensures.value in
    let answer = subst (λ (ps : List (ℕ × ℕ)). IsTrue c.has_twice-answer.result ↔ HasTwice ps) pairs c.has_twice-answer.ensures in
    conflict_verdict c.args.self.now canon nodes c.in_ok-groups.groups.items c.has_twice-answer.result c.in_ok-groups.ensures answer
