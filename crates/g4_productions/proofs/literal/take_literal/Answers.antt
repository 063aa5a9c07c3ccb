use Rattle.std.proofs.Common.{sym, ◌∙◌}
use Rattle.g4_cursor.proofs.Moving.{refuses, taken_as}
use Rattle.g4_productions.proofs.NextSets.{literal_fits, literal_bad, literal_good}
use Rattle.g4_productions.proofs.literal.take_literal.Goals as goal

pub returns-then-branch : goal.returns-then-branch
returns-then-branch c = refuses _ _ (literal_bad c.args.excluded _ (sym c.in_ok-literal_is_bad.ensures ∙ c.if-branch.true)) c.refuse.ensures

pub returns : goal.returns
returns c = taken_as _ _ (literal_fits c.args.excluded)
    (literal_good c.args.excluded _ (sym c.in_ok-literal_is_bad.ensures ∙ c.if-branch.false)) c.take.ensures
