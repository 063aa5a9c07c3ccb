use Rattle.std.proofs.Common.{length, rules, tests}
use Rattle.std.proofs.lemmas.Iterator.{cases_from_all, YieldsList-from_slice}
use Rattle.g4_net_check.specs.Numbers.{StateFits}
use Rattle.g4_net_check.proofs.Lists.{all_answer}
use Rattle.g4_net_check.proofs.numbers.states_fit.Goals as goal

pub returns : goal.returns
returns g c =
    let cases = cases_from_all _ _ c.all.result (StateFits (length c.args.states.now) c.args.rules)
    (λ x. StateFits (length c.args.states.now) c.args.rules x → ⊥) c.all.ensures.ran (YieldsList-from_slice c.args.states.now cc)
    (λ x q k. search (rules, tests)) (λ x q k. search (rules, tests)) in
    all_answer (StateFits (length c.args.states.now) c.args.rules) c.all.result c.args.states.now cases
