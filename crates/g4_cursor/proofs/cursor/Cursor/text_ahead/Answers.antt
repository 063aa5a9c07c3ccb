use Rattle.std.proofs.Common.{sym, ◌∙◌, ap, Some, true, false}
use Rattle.g4_cursor.proofs.Tokens.{part_at, none_ahead, bytes_of_there}
use Rattle.g4_cursor.proofs.cursor.Cursor.text_ahead.Goals as goal

pub returns-then-is_some : goal.returns-then-is_some
returns-then-is_some c = rw (← c.self.view_is)
    (sym (none_ahead c.args.many c.args.kind c.self.inside.halt _ (sym c.is_some.ensures ∙ c.if-is_some.true)))

pub part-requires : goal.part-requires
part-requires c = record { part = part_at c.args.many c.in-Some.token (sym c.token_at.ensures ∙ c.in-Some.is) c.self.invariant }

pub returns-then-eq : goal.returns-then-eq
returns-then-eq c = rw (← c.self.view_is) (ap Some c.part.ensures
    ∙ sym (bytes_of_there c.self.inside.text.now _ c.args.many c.args.kind c.self.inside.halt c.in-Some.token true
    (sym c.is_some.ensures ∙ c.if-is_some.false) (sym c.token_at.ensures ∙ c.in-Some.is) (sym c.eq.ensures ∙ c.if-eq.true)))

pub returns-else-eq : goal.returns-else-eq
returns-else-eq c = rw (← c.self.view_is) (sym
    (bytes_of_there c.self.inside.text.now _ c.args.many c.args.kind c.self.inside.halt c.in-Some.token false
    (sym c.is_some.ensures ∙ c.if-is_some.false) (sym c.token_at.ensures ∙ c.in-Some.is) (sym c.eq.ensures ∙ c.if-eq.false)))
