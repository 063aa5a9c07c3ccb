use Rattle.std.proofs.Common.{◌∷◌, ap, ◌∙◌}
use Rattle.g4_preds.specs.Newest.{newest_first}
use Rattle.g4_preds.proofs.Newest.{newest_first-push}
use Rattle.g4_preds.proofs.nesting.Bases.push.Goals as goal

pub returns : goal.returns
returns c = ap newest_first c.in_ok-push.ensures.items ∙ newest_first-push c.self.inside.counts.items c.args.count
    ∙ ap (λ counts. c.args.count ∷ counts) c.self.view_is
