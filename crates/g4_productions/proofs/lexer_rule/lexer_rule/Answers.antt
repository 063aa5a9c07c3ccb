use Rattle.std.proofs.Common.{refl}
use Rattle.g4_cursor.proofs.Moving.{so, upon}
use Rattle.g4_productions.proofs.lexer_rule.lexer_rule.Goals as goal

pub returns : goal.returns
returns c = upon c.fragment-fragment.ensures
    (upon c.in_ok-name.ensures (upon c.in_ok-pass_optional_options.ensures
    (upon c.take.ensures (upon c.in_ok-alternatives.ensures
    (so c.take-2.ensures (λ semicolon hs xs q colon hc options ho n p f r. rw (q, p, r) refl))))))
