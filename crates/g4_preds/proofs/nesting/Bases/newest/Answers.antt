use Rattle.std.proofs.Common.{◌-◌, length, slice_get, ap, ◌∙◌}
use Rattle.std.specs.Prelude.{unwrap_or}
use Rattle.g4_preds.specs.Newest.{newest}
use Rattle.g4_preds.proofs.Depths.{base_is}
use Rattle.g4_preds.proofs.Newest.{newest-last}
use Rattle.g4_preds.proofs.nesting.Bases.newest.Goals as goal

pub returns : goal.returns
returns c = c.unwrap_or.ensures
    ∙ ap (λ o. unwrap_or o 0) (c.copied.ensures ∙ c.last.ensures.value ∙ ap (λ counts. slice_get counts
    (length counts - 1)) c.deref.ensures.value
    ∙ newest-last c.self.inside.counts.items ∙ ap newest c.self.view_is) ∙ base_is c.args.self.now
