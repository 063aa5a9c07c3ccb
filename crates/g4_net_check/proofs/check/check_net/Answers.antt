use Rattle.std.proofs.Common.{IsTrue}
use Rattle.g4_net_check.proofs.Sound.{no_numbers, no_callers, both_right}
use Rattle.g4_net_check.specs.Numbers.{NumbersFit}
use Rattle.g4_net_check.specs.Callers.{CallersFit}
use Rattle.g4_net_check.proofs.check.check_net.Goals as goal

pub returns-then-not-numbers_fit : goal.returns-then-not-numbers_fit
returns-then-not-numbers_fit g c = no_numbers c.args.net.now
    (λ has. let t : IsTrue c.numbers_fit.result = c.numbers_fit.ensures.1 has in let n : ⊥ = cc in n)

pub returns-then-not-branch : goal.returns-then-not-branch
returns-then-not-branch g c = no_callers c.args.net.now
    (λ has. let t : IsTrue c.in_ok-callers_fit.field-0 = c.in_ok-callers_fit.ensures.1 has in let n : ⊥ = cc in n)

pub returns : goal.returns
returns g c =
    let numbers : NumbersFit c.args.net.now = c.numbers_fit.ensures.0 (cc) in
    let callers : CallersFit c.args.net.now = c.in_ok-callers_fit.ensures.0 (cc) in
    both_right c.args.net.now c.in_ok-answer.answer numbers callers c.in_ok-answer.ensures
