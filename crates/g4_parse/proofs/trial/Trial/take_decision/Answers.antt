use Rattle.std.proofs.Common.{rules, ◌≡◌, ◌+◌, ℕ, subst}
use Rattle.g4_parse.specs.Foresight.{ForeseesBy}
use Rattle.g4_parse.proofs.Foreseeing.{foresees_decided}
use Rattle.g4_parse.proofs.trial.Trial.take_decision.Goals as goal

pub returns-in-Some : goal.returns-in-Some
returns-in-Some c = λ net values word r s leads foresees.
    let before = c.args.self.now in
    let one_more : before.decided + 1 ≡ c.in-Some.decided = search rules in
    subst (λ (n : ℕ). ForeseesBy net values word n before.found s) one_more
    (foresees_decided net values word before.decided before.found r s leads foresees)
