use Rattle.std.proofs.Common.{map}
use Rattle.g4_configs.specs.Configs.{Holds}
use Rattle.g4_net.specs.Allowed.{Allows}
use Rattle.g4_tokens.specs.TokenList.{word_of}
use Rattle.g4_predict.specs.Paths.{looked_of, verdict_of}
use Rattle.g4_predict.proofs.Looking.{from_start, start_reached}
use Rattle.g4_predict.proofs.sll.simulate.Goals as goal

pub look_on-requires-clause-reached : goal.look_on-requires-clause-reached
look_on-requires-clause-reached c =
    start_reached c.args.net.now c.args.decision (Allows c.args.allowed.now) (Holds c.in_ok-set.set) c.in_ok-set.ensures

pub returns-clause-path : goal.returns-clause-path
returns-clause-path c =
    from_start c.args.net.now c.args.decision (Allows c.args.allowed.now) (Holds c.in_ok-set.set) (word_of c.args.tokens.now)
    (verdict_of c.in_ok-verdict.verdict) c.in_ok-start.start (map looked_of c.in_ok-verdict.looked) c.in_ok-set.ensures
    c.in_ok-start.ensures c.in_ok-verdict.ensures
