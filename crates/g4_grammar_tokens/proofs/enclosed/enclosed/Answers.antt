use Rattle.std.proofs.Common.{◌≡◌, ◌≤◌, ◌+◌, Some, None, length, drop, ℕ, arith, ap, ◌∙◌, sym, length-drop, length-take}
use Rattle.std.proofs.lemmas.List.{drop_all}
use Rattle.g4_grammar_tokens.proofs.Ends.{enclosed_from, find_enclosed}
use Rattle.g4_grammar_tokens.proofs.Skips.{enclosed_more, enclosed_stop, enclosed_fault}
use Rattle.g4_grammar_tokens.proofs.enclosed.enclosed.Goals as goal

pub loop-at-preserved : goal.loop-at-preserved
loop-at-preserved c = (
  enclosed_more c.args.context c.args.close c.loop-at.at c.index-text-at.result c.in-Some.more c.args.text.now c.loop-at-test.true
      c.index-text-at.is c.if-c-close.false (sym c.in-Some.ensures.value) ∙ c.loop-at.invariant.0,
  omega (arith, c.in-Some.ensures.within, length-drop {A = ℕ}, length-take {A = ℕ}),
)

pub returns-then-c-close-clause-end : goal.returns-then-c-close-clause-end
returns-then-c-close-clause-end c =
    let text = c.args.text.now in
    find_enclosed c.args.context c.args.close text (Some (c.loop-at.at + 1))
    (sym c.loop-at.invariant.0 ∙ enclosed_stop c.args.context c.args.close c.loop-at.at c.index-text-at.result text
    c.loop-at-test.true c.index-text-at.is c.if-c-close.true)

pub returns-in_default-clause-end : goal.returns-in_default-clause-end
returns-in_default-clause-end c =
    let text = c.args.text.now in
    find_enclosed c.args.context c.args.close text None
    (sym c.loop-at.invariant.0 ∙ enclosed_fault c.args.context c.args.close c.loop-at.at c.index-text-at.result text
    c.loop-at-test.true c.index-text-at.is c.if-c-close.false (sym c.unit_more.ensures.value ∙ c.in_default.is))

pub returns-clause-end : goal.returns-clause-end
returns-clause-end c =
    let text = c.args.text.now in
    let done : length text ≤ c.loop-at.at = omega arith in
    let stop : enclosed_from c.args.context c.args.close 0 c.loop-at.at (drop c.loop-at.at text) ≡ None =
    ap (enclosed_from c.args.context c.args.close 0 c.loop-at.at) (drop_all c.loop-at.at text done) in
    find_enclosed c.args.context c.args.close text None (sym c.loop-at.invariant.0 ∙ stop)
