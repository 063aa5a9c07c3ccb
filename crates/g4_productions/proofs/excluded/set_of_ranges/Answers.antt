use Rattle.std.proofs.Common.{subst}
use Rattle.g4_chars.specs.CharSets.{IsCanonical}
use Rattle.g4_productions.proofs.SetText.{ranges_listed}
use Rattle.g4_productions.proofs.excluded.set_of_ranges.Goals as goal

pub returns : goal.returns
returns c = ranges_listed c.args.ranges.now c.in_ok-set.set
    (subst IsCanonical c.ranges-canonical.ensures.value c.ranges-canonical.ensures.canonical) c.in_ok-set.ensures
