use Rattle.std.proofs.Common.{ℕ, rules, tests}
use Rattle.std.specs.List.{Contains}
use Rattle.std.proofs.lemmas.Iterator.{cases_from_all, YieldsList-from_slice}
use Rattle.g4_net_check.proofs.Lists.{all_answer}
use Rattle.g4_net_check.proofs.members.are_among.Goals as goal

pub returns : goal.returns
returns c =
    let P : ℕ → Type 0 = Contains c.args.sorted.now in
    let cases = cases_from_all _ _ c.all.result P (λ (x : ℕ). P x → ⊥) c.all.ensures.ran (YieldsList-from_slice c.args.numbers.now cc)
    (λ x q k. search (rules, tests)) (λ x q k. search (rules, tests)) in
    all_answer P c.all.result c.args.numbers.now cases
