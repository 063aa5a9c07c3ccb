use Rattle.std.proofs.Common.{refl, ◌∙◌, ap}
use Rattle.g4_cursor.proofs.Moving.{so}
use Rattle.g4_productions.specs.Members.{set_of_ranges}
use Rattle.g4_productions.proofs.excluded.excluded_set.Goals as goal

pub returns : goal.returns
returns c = so c.in_ok-add_excluded.ensures (λ tree p. c.in_ok-set.ensures
    ∙ ap set_of_ranges (c.deref.ensures.value ∙ p ∙ rw c.new-ranges.ensures.items refl))
