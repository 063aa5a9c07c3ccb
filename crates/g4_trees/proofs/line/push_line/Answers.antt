use Rattle.g4_trees.specs.TreeText.{token_text}
use Rattle.g4_trees.specs.TokenLines.{symbol_text}
use Rattle.g4_trees.proofs.Appended.{adds_last, adds_same, stops_in_first}
use Rattle.g4_trees.proofs.Parts.{line_parts, line_start, line_tail}
use Rattle.g4_trees.proofs.line.push_line.Goals as goal

pub returns-in_err-push_start : goal.returns-in_err-push_start
returns-in_err-push_start c =
    let token = c.args.token.now in
    let start = line_start c.args.name.now token.place (symbol_text c.args.shown.now token.symbol) in
    adds_same _ _ _ _ _ (line_parts c.args.shown.now c.args.name.now c.args.bytes.now token)
    (stops_in_first _ start _ _ _ _ c.from_residual.ensures.1 (rw c.symbol_shown.ensures at c.in_err-push_start.ensures))

pub returns-in_err-push_token_text : goal.returns-in_err-push_token_text
returns-in_err-push_token_text c =
    let token = c.args.token.now in
    let start = line_start c.args.name.now token.place (symbol_text c.args.shown.now token.symbol) in
    adds_same _ _ _ _ _ (line_parts c.args.shown.now c.args.name.now c.args.bytes.now token)
    (adds_last start _ _ _ _ _ (rw c.symbol_shown.ensures at c.in_ok-push_start.ensures)
    (stops_in_first _ (token_text c.args.bytes.now token) (line_tail token.channel) _ _ _
    c.from_residual-in_err-push_token_text.ensures.1 c.in_err-push_token_text.ensures))

pub returns : goal.returns
returns c =
    let token = c.args.token.now in
    let start = line_start c.args.name.now token.place (symbol_text c.args.shown.now token.symbol) in
    adds_same _ _ _ _ _ (line_parts c.args.shown.now c.args.name.now c.args.bytes.now token)
    (adds_last start _ _ _ _ _ (rw c.symbol_shown.ensures at c.in_ok-push_start.ensures)
    (adds_last (token_text c.args.bytes.now token) (line_tail token.channel) _ _ _ _ c.in_ok-push_token_text.ensures
    c.push_channel.ensures))
