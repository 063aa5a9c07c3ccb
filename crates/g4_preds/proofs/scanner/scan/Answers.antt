use Rattle.std.proofs.Common.{ℕ, arith, sym, subst, length-take, length-drop}
use Rattle.std.proofs.lemmas.List.{take_rest}
use Rattle.std.proofs.lemmas.Result.{err_from_is_err_and}
use Rattle.g4_preds.specs.Tokens.{AreTokens}
use Rattle.g4_preds.proofs.Scanned.{blank_at, token_at, fault_at, end_at, formed_within}
use Rattle.g4_preds.proofs.scanner.scan.Goals as goal

pub returns-in_err-read_piece : goal.returns-in_err-read_piece
returns-in_err-read_piece c =
    let p = err_from_is_err_and c.from_residual.result c.from_residual.ensures.1 in
    rw (p.1, p.2) (fault_at c.args.text.now _ c.loop-at.at c.loop-at.tokens.items c.in_err-read_piece.field-0.0 c.loop-at-test.true
    (take_rest c.args.text.now c.loop-at.at) c.loop-at.invariant.0 c.in_err-read_piece.ensures.value)

pub loop-at-preserved-in-Blank : goal.loop-at-preserved-in-Blank
loop-at-preserved-in-Blank c = (
  blank_at c.args.text.now _ c.loop-at.at c.loop-at.tokens.items c.in_ok-read_piece.field-0 c.loop-at-test.true
      (take_rest c.args.text.now c.loop-at.at) c.loop-at.invariant.0 c.in_ok-read_piece.ensures.value c.in-Blank.is,
  omega arith,
)

pub loop-at-preserved : goal.loop-at-preserved
loop-at-preserved c =
    let more = c.in-Formed.more in
    let within = formed_within _ more c.in-Formed.token c.in_ok-read_piece.field-0 c.in-Formed.is c.in_ok-read_piece.ensures.within in (
      token_at c.args.text.now _ c.loop-at.at more c.in-Formed.token c.loop-at.tokens.items c.push.new.self.items
          c.in_ok-read_piece.field-0 c.loop-at-test.true (take_rest c.args.text.now c.loop-at.at) c.loop-at.invariant.0
          c.in_ok-read_piece.ensures.value c.in-Formed.is c.in_ok-push-in-Formed.ensures.items,
      omega (arith, within, length-take {A = ℕ}, length-drop {A = ℕ}),
    )

pub returns : goal.returns
returns c = subst (AreTokens c.args.text.now) (sym c.new.ensures)
    (end_at c.args.text.now c.loop-at.at c.loop-at.tokens.items c.loop-at-test.false c.loop-at.invariant.0)
