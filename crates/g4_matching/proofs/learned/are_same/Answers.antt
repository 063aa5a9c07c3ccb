use Rattle.std.proofs.Common.{sym, ◌∙◌}
use Rattle.g4_matching.proofs.Same.{all_same}
use Rattle.g4_matching.proofs.learned.are_same.Goals as goal

pub returns : goal.returns
returns c = λ yes. all_same c.args.entries.now c.args.others.now (sym c.eq.ensures ∙ yes)
