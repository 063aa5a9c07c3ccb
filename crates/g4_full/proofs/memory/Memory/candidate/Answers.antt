use Rattle.std.proofs.Common.{reverse}
use Rattle.g4_guards.specs.Levels.{AllowedAt}
use Rattle.g4_tokens.specs.TokenList.{word_of}
use Rattle.g4_full.proofs.FullLooking.{candidate_of}
use Rattle.g4_full.proofs.memory.Memory.candidate.Goals as goal

pub returns : goal.returns
returns g c =
    candidate_of c.args.net.now c.args.decision (AllowedAt c.args.net.now c.args.decision c.args.condition) (reverse c.args.returns.now)
    (word_of c.args.tokens.now) c.args.most c.in_ok-ahead.ahead c.alternative.result c.alternative.ensures c.in_ok-ahead.ensures
