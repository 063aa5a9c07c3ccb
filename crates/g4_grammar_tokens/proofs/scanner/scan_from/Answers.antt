use Rattle.std.proofs.Common.{◌≤◌, ℕ, List, [], length, arith, length-take, length-drop, subst, sym}
use Rattle.g4_grammar_tokens.specs.Scanning.{AreTokens, start_at}
use Rattle.g4_grammar_tokens.specs.declared.token.Token.{Token}
use Rattle.g4_grammar_tokens.proofs.Reached.{reached_gap, reached_token, reached_end, reached_fault, gap_within, token_within}
use Rattle.g4_grammar_tokens.proofs.scanner.scan_from.Goals as goal

pub loop-at-preserved-in-Gap : goal.loop-at-preserved-in-Gap
loop-at-preserved-in-Gap c =
    let more = c.in-Gap.more in
    let within = gap_within _ more c.read_piece.result c.in-Gap.is c.read_piece.ensures.within in (
      reached_gap (start_at c.args.index) c.args.text.now c.loop-at.statement c.loop-at.position c.past-position.result c.loop-at.at
          c.index-text-at.result more c.loop-at.tokens.items c.read_piece.result c.loop-at.invariant.0 c.loop-at-test.true
          c.index-text-at.is c.read_piece.ensures.value c.in-Gap.is c.past-position.ensures.value,
      omega (arith, length-take {A = ℕ}, length-drop {A = ℕ}),
      omega (arith, c.past-position.ensures.lines, length-take {A = ℕ}, length-drop {A = ℕ}),
      omega (arith, c.past-position.ensures.columns, length-take {A = ℕ}, length-drop {A = ℕ}),
      omega (arith, c.past-position.ensures.bytes, length-take {A = ℕ}, length-drop {A = ℕ}),
    )

pub loop-at-preserved : goal.loop-at-preserved
loop-at-preserved c =
    let more = c.in-Formed.more in
    let kind = c.in-Formed.kind in
    let within = token_within _ more kind c.read_piece.result c.in-Formed.is c.read_piece.ensures.within in (
      reached_token (start_at c.args.index) c.args.text.now c.loop-at.statement c.past-statement.result c.loop-at.position
          c.past-next.result c.loop-at.at c.index-text-at.result more kind c.loop-at.tokens.items c.push.new.self.items
          c.read_piece.result c.loop-at.invariant.0 c.loop-at-test.true c.index-text-at.is c.read_piece.ensures.value c.in-Formed.is
          c.past-next.ensures.value c.past-statement.ensures c.in_ok-push-in-Formed.ensures.items,
      omega (arith, length-take {A = ℕ}, length-drop {A = ℕ}),
      omega (arith, c.past-next.ensures.lines, length-take {A = ℕ}, length-drop {A = ℕ}),
      omega (arith, c.past-next.ensures.columns, length-take {A = ℕ}, length-drop {A = ℕ}),
      omega (arith, c.past-next.ensures.bytes, length-take {A = ℕ}, length-drop {A = ℕ}),
    )

pub returns-in-Faulty : goal.returns-in-Faulty
returns-in-Faulty c =
    reached_fault (start_at c.args.index) c.args.text.now c.loop-at.statement c.loop-at.position c.loop-at.at c.index-text-at.result
    c.loop-at.tokens.items c.read_piece.result c.loop-at.invariant.0 c.loop-at-test.true c.index-text-at.is
    c.read_piece.ensures.value c.in-Faulty.is

pub returns : goal.returns
returns c =
    let done : length c.args.text.now ≤ c.loop-at.at = omega arith in
    subst (λ (ts : List Token). AreTokens [] (start_at c.args.index) c.args.text.now ts) (sym c.new.ensures)
    (reached_end (start_at c.args.index) c.args.text.now c.loop-at.statement c.loop-at.position c.loop-at.at
    c.loop-at.tokens.items c.loop-at.invariant.0 done)
