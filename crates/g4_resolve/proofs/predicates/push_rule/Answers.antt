use Rattle.std.proofs.Common.{◌++◌, ℕ, List, sym, ap, ◌∙◌}
use Rattle.std.specs.List.{flat_map}
use Rattle.g4_resolve.proofs.Gathering.{alternatives_texts, alternative_texts}
use Rattle.g4_resolve.proofs.predicates.push_rule.Goals as goal

pub loop-alternative-init : goal.loop-alternative-init
loop-alternative-init c =
    ap (λ (xs : List (List ℕ)). c.args.found.now.items ++ xs)
    (ap (flat_map alternative_texts) c.as_slice-alternative-items.ensures ∙ sym (alternatives_texts c.args.rule.now.alternatives))
