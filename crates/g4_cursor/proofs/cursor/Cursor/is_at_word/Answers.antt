use Rattle.std.proofs.Common.{List, ℕ, sym, ◌∙◌, ap, true, false}
use Rattle.std.specs.Prelude.{bytes_eq}
use Rattle.g4_syntax.specs.Notation.{word}
use Rattle.g4_cursor.proofs.Tokens.{first_part, word_next, none_past}
use Rattle.g4_cursor.proofs.cursor.Cursor.is_at_word.Goals as goal

pub part-requires : goal.part-requires
part-requires c = record { part = first_part c.in-Some.token.now _ c.in-Some.ensures.cases.0 c.self.invariant }

pub returns-then-is_at : goal.returns-then-is_at
returns-then-is_at c =
    let lower = rw (← c.self.view_is) at (sym c.if-is_at.true ∙ c.is_at.ensures) in
    rw (← c.self.view_is) (c.eq.ensures ∙ ap (λ (b : List ℕ). bytes_eq b c.args.spelling.now) c.part.ensures
    ∙ word_next c.self.inside.text.now c.args.spelling.now c.in-Some.token.now _ c.self.inside.halt true c.in-Some.ensures.cases.0
    lower)

pub returns-else-is_at : goal.returns-else-is_at
returns-else-is_at c =
    let lower = rw (← c.self.view_is) at (sym c.if-is_at.false ∙ c.is_at.ensures) in
    rw (← c.self.view_is) (c.if-is_at.false ∙ word_next c.self.inside.text.now c.args.spelling.now c.in-Some.token.now _
    c.self.inside.halt false c.in-Some.ensures.cases.0 lower)

pub returns-in-None : goal.returns-in-None
returns-in-None c = rw (← c.self.view_is) (none_past (word c.args.spelling.now) c.self.inside.text.now _ c.self.inside.halt
    c.in-None.ensures.cases)
