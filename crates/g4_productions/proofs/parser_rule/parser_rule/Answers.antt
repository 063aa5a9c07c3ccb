use Rattle.std.proofs.Common.{refl}
use Rattle.g4_cursor.proofs.Moving.{so, upon}
use Rattle.g4_productions.proofs.parser_rule.parser_rule.Goals as goal

pub returns : goal.returns
returns c = upon c.pass_modifier.ensures (upon c.in_ok-name.ensures
    (upon c.in_ok-pass_rule_prequels.ensures (upon c.take.ensures
    (upon c.in_ok-alternatives.ensures (upon c.take-2.ensures
    (so c.pass_handlers.ensures (λ h hs s hx xs q colon hc prequels hp n p modifier hm. rw (q, p) refl)))))))
