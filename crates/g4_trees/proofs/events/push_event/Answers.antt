use Rattle.std.proofs.Common.{◌++◌, codes}
use Rattle.g4_trees.specs.TreeText.{text_at}
use Rattle.g4_trees.proofs.Appended.{adds_same, adds_three, stops_in_first, stops_in_second}
use Rattle.g4_trees.proofs.TreeLines.{line_parts}
use Rattle.g4_trees.proofs.events.push_event.Goals as goal

pub returns-in_err-push_three-in-Token : goal.returns-in_err-push_three-in-Token
returns-in_err-push_three-in-Token g c =
    let text = text_at c.args.tokens.now c.in-Token.at in
    rw c.in-Token.is
    (adds_same _ _ _ _ _ (line_parts c.args.name.now (codes "token ") text)
    (stops_in_first _ (c.args.name.now ++ (codes ": " ++ codes "token ")) (text ++ codes "\n") _ _ _ c.from_residual.ensures.1
    c.in_err-push_three-in-Token.ensures))

pub returns-in_err-push_token-in-Token : goal.returns-in_err-push_token-in-Token
returns-in_err-push_token-in-Token g c =
    let text = text_at c.args.tokens.now c.in-Token.at in
    rw c.in-Token.is
    (adds_same _ _ _ _ _ (line_parts c.args.name.now (codes "token ") text)
    (stops_in_second _ (c.args.name.now ++ (codes ": " ++ codes "token ")) text (codes "\n") _ _ _ _
    c.from_residual-in_err-push_token-in-Token.ensures.1 c.in_ok-push_three-in-Token.ensures c.in_err-push_token-in-Token.ensures))

pub returns-in_ok-push_token-in-Token : goal.returns-in_ok-push_token-in-Token
returns-in_ok-push_token-in-Token g c =
    let text = text_at c.args.tokens.now c.in-Token.at in
    rw c.in-Token.is
    (adds_same _ _ _ _ _ (line_parts c.args.name.now (codes "token ") text)
    (adds_three (c.args.name.now ++ (codes ": " ++ codes "token ")) text (codes "\n") _ _ _ _ _ c.in_ok-push_three-in-Token.ensures
    c.in_ok-push_token-in-Token.ensures c.push.ensures))
