use Rattle.std.proofs.Common.{◌-◌, drop, take, ap, ◌∙◌}
use Rattle.g4_preds.specs.Newest.{newest_first}
use Rattle.g4_preds.proofs.Newest.{newest_first-take}
use Rattle.g4_preds.proofs.nesting.Bases.drop_newest.Goals as goal

pub returns : goal.returns
returns c =
    let items = c.self.inside.counts.items in
    ap newest_first (c.pop.ensures.rest ∙ ap (λ n. take (n - 1) items) c.self.inside.counts.ok.0) ∙ newest_first-take items
    ∙ ap (drop 1) c.self.view_is
