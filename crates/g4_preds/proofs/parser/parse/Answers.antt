use Rattle.std.proofs.Common.{◌∙◌, arith, length-take, length-drop}
use Rattle.std.proofs.lemmas.List.{take_rest}
use Rattle.std.proofs.lemmas.Result.{err_from_is_err_and}
use Rattle.g4_preds.specs.declared.token.Token.{Token}
use Rattle.g4_preds.specs.Steps.{state_of}
use Rattle.g4_preds.proofs.Onward.{goes_on, refused_at, ended_at}
use Rattle.g4_preds.proofs.parser.parse.Goals as goal

pub returns-in_err-more : goal.returns-in_err-more
returns-in_err-more c =
    let p = err_from_is_err_and c.from_residual.result c.from_residual.ensures.1 in
    rw (p.1, p.2) (refused_at c.args.tokens.now _ c.loop-at.at (state_of c.loop-at.parser) (state_of c.pass.new.self)
    c.in_err-more.field-0.0 c.loop-at-test.true (take_rest c.args.tokens.now c.loop-at.at) c.loop-at.invariant.0
    c.in_err-more.ensures.step)

pub loop-at-preserved : goal.loop-at-preserved
loop-at-preserved c = (
  goes_on c.args.tokens.now _ c.loop-at.at c.in_ok-more.more (state_of c.loop-at.parser) (state_of c.pass.new.self)
      c.loop-at-test.true (take_rest c.args.tokens.now c.loop-at.at) c.in_ok-more.ensures.step ∙ c.loop-at.invariant.0,
  omega (arith, c.in_ok-more.ensures.within, length-drop {A = Token}, length-take {A = Token}),
)

pub returns : goal.returns
returns c = ended_at c.args.tokens.now c.loop-at.at (state_of c.loop-at.parser) c.finish.result c.loop-at-test.false
    c.loop-at.invariant.0 c.finish.ensures
