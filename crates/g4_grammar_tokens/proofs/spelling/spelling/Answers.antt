use Rattle.std.proofs.Common.{ℕ, arith, ◌∙◌, sym, length-drop, length-take}
use Rattle.g4_grammar_tokens.proofs.Skips.{spelling_more}
use Rattle.g4_grammar_tokens.proofs.spelling.spelling.Goals as goal

pub loop-at-preserved : goal.loop-at-preserved
loop-at-preserved c = (
  spelling_more c.loop-at.characters.items c.push.new.self.items c.loop-at.at c.index-text-at.result c.args.text.now c.in-Some.found
      c.loop-at-test.true c.index-text-at.is (sym c.in-Some.ensures.value) c.in_ok-push.ensures.items ∙ c.loop-at.invariant.0,
  omega (arith, c.in-Some.ensures.within, length-drop {A = ℕ}, length-take {A = ℕ}),
)
