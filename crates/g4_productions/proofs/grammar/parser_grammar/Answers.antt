use Rattle.std.proofs.Common.{refl}
use Rattle.g4_cursor.proofs.Moving.{so, upon}
use Rattle.g4_productions.proofs.grammar.parser_grammar.Goals as goal

pub returns : goal.returns
returns c = upon c.take_word.ensures (upon c.take_word-2.ensures
    (upon c.in_ok-name.ensures (so c.in_ok-rules.ensures
    (λ rs q h r other o keyword p. rw (q, r.0, r.1, p.place, c.new-2.ensures, c.new.ensures.items) refl))))
