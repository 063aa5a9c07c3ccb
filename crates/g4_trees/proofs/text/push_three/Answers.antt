use Rattle.std.proofs.Common.{◌++◌}
use Rattle.g4_trees.proofs.Appended.{adds_three, stops_in_first, stops_in_second}
use Rattle.g4_trees.proofs.text.push_three.Goals as goal

pub returns-in_err-push : goal.returns-in_err-push
returns-in_err-push c = stops_in_first _ c.args.first.now (c.args.second.now ++ c.args.third.now) _ _ _ c.from_residual.ensures.1
    c.in_err-push.ensures

pub returns-in_err-push-2 : goal.returns-in_err-push-2
returns-in_err-push-2 c = stops_in_second _ c.args.first.now c.args.second.now c.args.third.now _ _ _ _
    c.from_residual-in_err-push-2.ensures.1 c.in_ok-push.ensures c.in_err-push-2.ensures

pub returns : goal.returns
returns c = adds_three c.args.first.now c.args.second.now c.args.third.now _ _ _ _ _ c.in_ok-push.ensures c.in_ok-push-2.ensures
    c.push-3.ensures
