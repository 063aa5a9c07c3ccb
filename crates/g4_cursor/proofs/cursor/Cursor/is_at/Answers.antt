use Rattle.std.proofs.Common.{◌∙◌, ap, not}
use Rattle.g4_syntax.specs.Notation.{sign}
use Rattle.g4_cursor.proofs.Tokens.{kind_next, none_stopped, none_past}
use Rattle.g4_cursor.proofs.cursor.Cursor.is_at.Goals as goal

pub returns-then-is_none : goal.returns-then-is_none
returns-then-is_none c = rw (← c.self.view_is)
    (c.eq.ensures ∙ kind_next c.self.inside.text.now c.in-Some.token.now _ c.self.inside.halt c.args.kind c.in-Some.ensures.cases.0
    (c.is_none.ensures ∙ ap not c.if-is_none.true))

pub returns-else-is_none : goal.returns-else-is_none
returns-else-is_none c = rw (← c.self.view_is)
    (c.if-is_none.false ∙ none_stopped (sign c.args.kind) c.self.inside.halt _ (c.is_none.ensures ∙ ap not c.if-is_none.false))

pub returns-in-None : goal.returns-in-None
returns-in-None c = rw (← c.self.view_is) (none_past (sign c.args.kind) c.self.inside.text.now _ c.self.inside.halt c.in-None.ensures.cases)
