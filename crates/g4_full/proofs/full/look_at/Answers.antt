use Rattle.std.proofs.Common.{reverse}
use Rattle.g4_guards.specs.Levels.{AllowedAt}
use Rattle.g4_net.specs.Allowed.{Allows}
use Rattle.g4_tokens.specs.TokenList.{word_of}
use Rattle.g4_full.proofs.FullLooking.{ahead_over}
use Rattle.g4_full.proofs.full.look_at.Goals as goal

pub returns : goal.returns
returns c =
    ahead_over c.args.net.now c.args.decision (Allows c.in_ok-allowed.allowed) (AllowedAt c.args.net.now c.args.decision c.args.condition)
    c.in_ok-allowed.ensures (reverse c.args.returns.now) (word_of c.args.tokens.now) c.args.most c.in_ok-ahead.ahead c.in_ok-ahead.ensures
