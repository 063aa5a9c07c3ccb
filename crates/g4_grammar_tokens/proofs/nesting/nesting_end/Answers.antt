use Rattle.std.proofs.Common.{◌≡◌, ◌≤◌, ◌+◌, Some, None, length, drop, arith, ap, sym, ◌∙◌}
use Rattle.std.proofs.lemmas.List.{take_rest, drop_all}
use Rattle.g4_grammar_tokens.specs.Nesting.{passed_over}
use Rattle.g4_grammar_tokens.proofs.Quotes.{unclosed_later}
use Rattle.g4_grammar_tokens.proofs.Skips.{nesting_more, nesting_stop}
use Rattle.g4_grammar_tokens.proofs.Ends.{nesting_end_from, find_nesting}
use Rattle.g4_grammar_tokens.proofs.nesting.nesting_end.Goals as goal

pub loop-at-preserved : goal.loop-at-preserved
loop-at-preserved c =
    let at = c.loop-at.at in
    let text = c.args.text.now in
    let character = c.index-text-at.result in
    let more = c.passed-more.ensures.value ∙ ap (passed_over c.args.opening c.args.closing character) (sym (take_rest text (at + 1))) in (
      nesting_more c.args.opening c.args.closing c.loop-at.depth at character c.depth_after-depth.result c.passed-more.result.0 text
          c.loop-at-test.true c.index-text-at.is (cc) c.depth_after-depth.ensures.value more ∙ c.loop-at.invariant.0,
      omega arith,
      omega arith,
      unclosed_later text at (at + (1 + c.passed-more.result.0)) c.passed-more.result.1 (omega arith) c.passed-more.ensures.known,
    )

pub returns-then-closes-clause-end : goal.returns-then-closes-clause-end
returns-then-closes-clause-end c =
    let text = c.args.text.now in
    let stop : nesting_end_from c.args.opening c.args.closing c.loop-at.depth 0 c.loop-at.at (drop c.loop-at.at text)
    ≡ Some (c.loop-at.at + 1) = nesting_stop c.args.opening c.args.closing c.loop-at.depth c.loop-at.at c.index-text-at.result
    text c.loop-at-test.true c.index-text-at.is (cc) in
    find_nesting c.args.opening c.args.closing text (Some (c.loop-at.at + 1)) (sym c.loop-at.invariant.0 ∙ stop)

pub returns-clause-end : goal.returns-clause-end
returns-clause-end c =
    let text = c.args.text.now in
    let done : length text ≤ c.loop-at.at = omega arith in
    let stop : nesting_end_from c.args.opening c.args.closing c.loop-at.depth 0 c.loop-at.at (drop c.loop-at.at text) ≡ None =
    ap (nesting_end_from c.args.opening c.args.closing c.loop-at.depth 0 c.loop-at.at) (drop_all c.loop-at.at text done) in
    find_nesting c.args.opening c.args.closing text None (sym c.loop-at.invariant.0 ∙ stop)
