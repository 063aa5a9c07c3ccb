use Rattle.std.proofs.Common.{rules, tests}
use Rattle.std.proofs.lemmas.Iterator.{cases_from_all, YieldsList-from_slice}
use Rattle.g4_configs.specs.declared.group.Group.{Group}
use Rattle.g4_configs.specs.Verdicts.{HasAlternative}
use Rattle.g4_configs.proofs.Alike.{all_answer}
use Rattle.g4_configs.proofs.verdicts.has_each.Goals as goal

pub returns : goal.returns
returns c =
    let P : Group → Type 0 = HasAlternative c.args.nodes.now.entries c.args.group.state c.args.group.stacks in
    let cases = cases_from_all _ _ c.all.result P (λ (x : Group). P x → ⊥) c.all.ensures.ran
    (YieldsList-from_slice c.args.others.now cc) (λ x q k. search (rules, tests)) (λ x q k. search (rules, tests)) in
    all_answer P c.all.result c.args.others.now cases
