use Rattle.g4_cursor.proofs.Moving.{after}
use Rattle.g4_cursor.proofs.passing.pass_rule_prequels.Goals as goal

pub returns : goal.returns
returns c = after c.take_if.ensures (after c.pass_clause.ensures
    (after c.pass_throws.ensures (after c.pass_clause-2.ensures c.in_ok-pass_declarations.ensures)))
