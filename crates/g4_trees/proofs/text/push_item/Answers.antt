use Rattle.g4_trees.specs.Pieces.{closing, gap}
use Rattle.g4_trees.specs.TreeText.{text_at}
use Rattle.g4_trees.proofs.Appended.{adds_last, stops_in_first}
use Rattle.g4_trees.proofs.text.push_item.Goals as goal

pub returns-in_err-push_token-in-Token : goal.returns-in_err-push_token-in-Token
returns-in_err-push_token-in-Token g c =
    rw c.in-Token.is (stops_in_first _ (text_at c.args.tokens.now c.in-Token.at) (gap c.args.more.now) _ _ _ c.from_residual.ensures.1
    c.in_err-push_token-in-Token.ensures)

pub returns-in_err-push-in-Exit : goal.returns-in_err-push-in-Exit
returns-in_err-push-in-Exit g c =
    rw c.in-Exit.is (stops_in_first _ (closing c.args.entered) (gap c.args.more.now) _ _ _
    c.from_residual-in_err-push-in-Exit.ensures.1 (rw c.closing.ensures at c.in_err-push-in-Exit.ensures))

pub returns-in_ok-push_token-in-Token : goal.returns-in_ok-push_token-in-Token
returns-in_ok-push_token-in-Token g c =
    rw c.in-Token.is (adds_last (text_at c.args.tokens.now c.in-Token.at) (gap c.args.more.now) _ _ _ _
    c.in_ok-push_token-in-Token.ensures (rw c.gap-in-Token.ensures at c.push.ensures))
