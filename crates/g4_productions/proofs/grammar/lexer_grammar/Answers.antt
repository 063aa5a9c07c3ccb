use Rattle.std.proofs.Common.{refl}
use Rattle.g4_cursor.proofs.Moving.{so, upon}
use Rattle.g4_productions.proofs.grammar.lexer_grammar.Goals as goal

pub returns : goal.returns
returns c = upon c.take_word.ensures (upon c.take_word-2.ensures
    (upon c.in_ok-name.ensures (upon c.in_ok-first.ensures
    (so c.in_ok-sections.ensures (λ ms s rs q h r other o keyword p.
    rw (c.in_ok-all.ensures.rules, c.in_ok-all.ensures.modes, s, q, r.0, r.1, p.place) refl)))))
