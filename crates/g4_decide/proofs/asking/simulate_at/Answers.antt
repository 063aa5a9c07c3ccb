use Rattle.g4_guards.proofs.Same.{sll_over}
use Rattle.g4_guards.specs.Levels.{AllowedAt}
use Rattle.g4_net.specs.Allowed.{Allows}
use Rattle.g4_predict.specs.Paths.{path_of, verdict_of}
use Rattle.g4_tokens.specs.TokenList.{word_of}
use Rattle.g4_decide.proofs.asking.simulate_at.Goals as goal

pub returns-clause-path : goal.returns-clause-path
returns-clause-path c =
    sll_over c.args.net.now c.args.decision (Allows c.in_ok-allowed.allowed) (AllowedAt c.args.net.now c.args.decision c.args.condition)
    (λ i t first. (c.in_ok-allowed.ensures i t first).0) (λ i t first. (c.in_ok-allowed.ensures i t first).1) (word_of c.args.tokens.now)
    (verdict_of c.in_ok-simulated.simulated.0) (path_of c.in_ok-simulated.simulated.1) c.in_ok-simulated.ensures.path
