use Rattle.std.proofs.Common.{sym, ◌∙◌}
use Rattle.std.proofs.lemmas.Bool.{cond-true, cond-false}
use Rattle.g4_syntax.specs.Notation.{is_kind}
use Rattle.g4_cursor.proofs.Tokens.{same_kind}
use Rattle.g4_productions.proofs.nesting.one_if.Goals as goal

pub returns-then-eq-clause-value : goal.returns-then-eq-clause-value
returns-then-eq-clause-value c = sym (cond-true (is_kind c.args.wanted c.args.kind) 1 0
    (sym (same_kind c.args.kind c.args.wanted) ∙ sym c.eq.ensures ∙ c.if-eq.true))

pub returns-else-eq-clause-value : goal.returns-else-eq-clause-value
returns-else-eq-clause-value c = sym (cond-false (is_kind c.args.wanted c.args.kind) 1 0
    (sym (same_kind c.args.kind c.args.wanted) ∙ sym c.eq.ensures ∙ c.if-eq.false))
