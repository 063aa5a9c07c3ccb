use Rattle.std.proofs.Common.{◌<◌, length, IfSome, subst}
use Rattle.g4_store.proofs.Lists.{some_below}
use Rattle.g4_store.proofs.rows.Rows.find.Goals as goal

pub returns-clause-within : goal.returns-clause-within
returns-clause-within g c =
    let i = c.self.invariant in
    subst (λ q. IfSome c.find_from.result (λ t. t < q.1)) c.self.view_is
    (some_below c.find_from.result _ _ i.0.1 (subst (λ rows. IfSome c.find_from.result (λ t. t < length rows))
    c.as_slice-2.ensures.value c.find_from.ensures.within))
