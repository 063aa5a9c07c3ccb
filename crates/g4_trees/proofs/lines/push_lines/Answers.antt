use Rattle.std.proofs.Common.{◌<◌, length, arith}
use Rattle.g4_trees.proofs.Items.{next_added, next_begun}
use Rattle.g4_trees.specs.TokenLines.{token_line}
use Rattle.g4_trees.proofs.lines.push_lines.Goals as goal

pub returns-in_err-push_line : goal.returns-in_err-push_line
returns-in_err-push_line c =
    let within : c.loop-token.token-index < length c.args.tokens.now = omega arith in
    next_begun (token_line c.args.shown.now c.args.name.now c.args.bytes.now) c.args.tokens.now c.loop-token.token-index _ within _ _
    _ _ _ c.from_residual.ensures.1 c.loop-token.invariant c.in_err-push_line.ensures

pub loop-token-preserved : goal.loop-token-preserved
loop-token-preserved c =
    let within : c.loop-token.token-index < length c.args.tokens.now = omega arith in
    next_added (token_line c.args.shown.now c.args.name.now c.args.bytes.now) c.args.tokens.now c.loop-token.token-index _ within _ _
    _ c.loop-token.invariant c.in_ok-push_line.ensures
