use Rattle.std.proofs.Common.{map}
use Rattle.g4_configs.specs.Configs.{Holds}
use Rattle.g4_tokens.specs.TokenList.{word_of}
use Rattle.g4_predict.specs.Paths.{looked_of, verdict_of}
use Rattle.g4_predict.proofs.Looking.{from_row}
use Rattle.g4_predict.proofs.sll.simulate_from.Goals as goal

pub look_on-requires-clause-reached : goal.look_on-requires-clause-reached
look_on-requires-clause-reached c = λ d i. c.requires.reached d ((c.in_ok-set.ensures.exactly d).1 i)

pub returns : goal.returns
returns c =
    from_row c.args.net.now c.args.row.now (Holds c.in_ok-set.set) (word_of c.args.tokens.now) c.args.k (verdict_of c.in_ok-found.found.0)
    (map looked_of c.in_ok-found.found.1) c.in_ok-set.ensures c.in_ok-found.ensures
