use Rattle.std.proofs.Common.{◌-◌, drop, length, slice_get, take, ap, ◌∙◌}
use Rattle.g4_preds.specs.Newest.{newest, newest_first}
use Rattle.g4_preds.proofs.Newest.{newest-last, newest_first-take}
use Rattle.g4_preds.proofs.branching.Exits.pop.Goals as goal

pub returns-clause-last : goal.returns-clause-last
returns-clause-last c = c.copied-last.ensures ∙ c.last.ensures.value ∙ ap (λ es. slice_get es (length es - 1)) c.deref.ensures.value
    ∙ newest-last c.self.inside.exits.items ∙ ap newest c.self.view_is

pub returns-clause-rest : goal.returns-clause-rest
returns-clause-rest c =
    let items = c.self.inside.exits.items in
    ap newest_first (c.pop.ensures.rest ∙ ap (λ n. take (n - 1) items) c.self.inside.exits.ok.0) ∙ newest_first-take items
    ∙ ap (drop 1) c.self.view_is
