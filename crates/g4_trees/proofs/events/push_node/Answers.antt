use Rattle.std.proofs.Common.{◌++◌, codes, decimal}
use Rattle.g4_trees.specs.Events.{called}
use Rattle.g4_trees.proofs.Appended.{adds_same, adds_three, stops_in_first, stops_in_second}
use Rattle.g4_trees.proofs.TreeLines.{line_parts}
use Rattle.g4_trees.proofs.events.push_node.Goals as goal

pub returns-in_err-push_three : goal.returns-in_err-push_three
returns-in_err-push_three g c =
    let rest = called c.args.rules.now c.args.rule c.args.alt ++ (codes " " ++ decimal c.args.alt) in
    adds_same _ _ _ _ _ (line_parts c.args.name.now c.args.word.now rest)
    (stops_in_first _ (c.args.name.now ++ (codes ": " ++ c.args.word.now)) (rest ++ codes "\n") _ _ _ c.from_residual.ensures.1
    c.in_err-push_three.ensures)

pub returns-in_err-push_three-2 : goal.returns-in_err-push_three-2
returns-in_err-push_three-2 g c =
    let rest = called c.args.rules.now c.args.rule c.args.alt ++ (codes " " ++ decimal c.args.alt) in
    adds_same _ _ _ _ _ (line_parts c.args.name.now c.args.word.now rest)
    (stops_in_second _ (c.args.name.now ++ (codes ": " ++ c.args.word.now)) rest (codes "\n") _ _ _ _
    c.from_residual-in_err-push_three-2.ensures.1 c.in_ok-push_three.ensures
    (rw (c.called.ensures, c.format.ensures.text) at c.in_err-push_three-2.ensures))

pub returns : goal.returns
returns g c =
    let rest = called c.args.rules.now c.args.rule c.args.alt ++ (codes " " ++ decimal c.args.alt) in
    adds_same _ _ _ _ _ (line_parts c.args.name.now c.args.word.now rest)
    (adds_three (c.args.name.now ++ (codes ": " ++ c.args.word.now)) rest (codes "\n") _ _ _ _ _ c.in_ok-push_three.ensures
    (rw (c.called.ensures, c.format.ensures.text) at c.in_ok-push_three-2.ensures) c.push.ensures)
