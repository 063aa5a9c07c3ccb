use Rattle.std.proofs.Common.{◌-◌, length, slice_get, ap, ◌∙◌}
use Rattle.g4_preds.specs.Newest.{newest}
use Rattle.g4_preds.proofs.Newest.{newest-last}
use Rattle.g4_preds.proofs.operators.Pending.newest.Goals as goal

pub returns : goal.returns
returns c = c.copied.ensures ∙ c.last.ensures.value ∙ ap (λ ops. slice_get ops (length ops - 1)) c.deref.ensures.value
    ∙ newest-last c.self.inside.operators.items ∙ ap newest c.self.view_is
