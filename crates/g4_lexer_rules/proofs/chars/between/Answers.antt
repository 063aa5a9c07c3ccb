use Rattle.g4_lexer_rules.proofs.Sets.{is_between}
use Rattle.g4_lexer_rules.proofs.chars.between.Goals as goal

pub returns : goal.returns
returns c = is_between c.in_ok-set.set c.args.first c.args.last
    (rw c.ranges-canonical.ensures.value at c.ranges-canonical.ensures.canonical) c.in_ok-set.ensures
