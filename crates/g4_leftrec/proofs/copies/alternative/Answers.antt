use Rattle.std.proofs.Common.{◌≡◌, refl, ◌∙◌}
use Rattle.g4_leftrec.proofs.SameTrees.{same_in_order}
use Rattle.g4_leftrec.proofs.copies.alternative.Goals as goal

pub returns : goal.returns
returns c =
    let elements : c.in_ok-elements.elements ≡ c.args.alternative.now.elements =
    c.in_ok-elements.ensures ∙ same_in_order c.args.alternative.now.elements in
    rw (elements, c.in_ok-label.ensures) refl
