use Rattle.std.proofs.Common.{◌∷◌, ap, ◌∙◌}
use Rattle.g4_preds.specs.Newest.{newest_first}
use Rattle.g4_preds.proofs.Newest.{newest_first-push}
use Rattle.g4_preds.proofs.operators.Pending.push.Goals as goal

pub returns : goal.returns
returns c = ap newest_first c.in_ok-push.ensures.items ∙ newest_first-push c.self.inside.operators.items c.args.operator
    ∙ ap (λ ops. c.args.operator ∷ ops) c.self.view_is
