use Rattle.g4_lexer_rules.proofs.Sets.{is_others}
use Rattle.g4_lexer_rules.proofs.chars.others.Goals as goal

pub returns : goal.returns
returns c = is_others c.args.set.now c.in_ok-others.others
    (rw c.ranges-canonical.ensures.value at c.ranges-canonical.ensures.canonical)
    (rw c.ranges-canonical_too.ensures.value at c.ranges-canonical_too.ensures.canonical) c.in_ok-others.ensures
