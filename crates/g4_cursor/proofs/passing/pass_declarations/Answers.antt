use Rattle.std.proofs.Common.{sym, ◌∙◌}
use Rattle.g4_cursor.proofs.Turning.{fewer, pass_start, pass_turn, pass_end}
use Rattle.g4_cursor.proofs.passing.pass_declarations.Goals as goal

pub loop-cursor-init : goal.loop-cursor-init
loop-cursor-init c = pass_start

pub loop-cursor-preserved : goal.loop-cursor-preserved
loop-cursor-preserved c = pass_turn c.loop-cursor.invariant (sym c.is_at_declaration.ensures ∙ c.loop-cursor-test.true)
    c.in_ok-pass_declaration.ensures

pub loop-cursor-smaller : goal.loop-cursor-smaller
loop-cursor-smaller c = fewer (sym c.is_at_declaration.ensures ∙ c.loop-cursor-test.true) c.in_ok-pass_declaration.ensures

pub returns : goal.returns
returns c = pass_end c.loop-cursor.invariant (sym c.is_at_declaration.ensures ∙ c.loop-cursor-test.false)
