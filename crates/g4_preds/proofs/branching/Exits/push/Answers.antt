use Rattle.std.proofs.Common.{◌∷◌, ap, ◌∙◌}
use Rattle.g4_preds.specs.Newest.{newest_first}
use Rattle.g4_preds.specs.Branches.{exit}
use Rattle.g4_preds.proofs.Newest.{newest_first-push}
use Rattle.g4_preds.proofs.branching.Exits.push.Goals as goal

pub returns : goal.returns
returns c =
    let added = exit c.args.if_true c.args.if_false in
    ap newest_first c.in_ok-push.ensures.items ∙ newest_first-push c.self.inside.exits.items added ∙ ap (λ es. added ∷ es) c.self.view_is
