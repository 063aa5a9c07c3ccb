use Rattle.std.proofs.Common.{◌≤◌, ◌+◌, length, ap, ◌∙◌, arith}
use Rattle.std.proofs.lemmas.List.{take_all}
use Rattle.g4_preds.specs.Levels.{levels_of, none_open}
use Rattle.g4_preds.proofs.Depths.{past_all, past_more, open_within, depth_is}
use Rattle.g4_preds.proofs.nesting.depth.Goals as goal

pub loop-token-preserved : goal.loop-token-preserved
loop-token-preserved c =
    let next = past_more c.args.tokens.now c.loop-token.token-index (levels_of c.loop-token.nesting) (levels_of c.pass.new.self)
    _ _ c.loop-token-test.true c.token-item.is c.loop-token.invariant.0 c.in_ok-pass.ensures in
    (next, open_within c.args.tokens.now (c.loop-token.token-index + 1) (levels_of c.pass.new.self) next)

pub returns : goal.returns
returns c = λ tree reads.
    let done : length c.args.tokens.now ≤ c.loop-token.token-index = omega (arith, c.loop-token-test.false) in
    ap (λ s. s.most) (c.loop-token.invariant.0
    ∙ ap (past_all none_open) (take_all c.loop-token.token-index c.args.tokens.now done)) ∙ depth_is reads
