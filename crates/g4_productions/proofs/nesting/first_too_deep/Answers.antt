use Rattle.std.proofs.Common.{ℕ, List, [], ◌+◌, ◌≤◌, length, arith}
use Rattle.g4_cursor.specs.Texts.{spelled}
use Rattle.g4_productions.proofs.TooDeep.{IsPassed, deep_at, few_passed, none_deep, passed_at, passed_none}
use Rattle.g4_productions.proofs.nesting.first_too_deep.Goals as goal

pub loop-at-init : goal.loop-at-init
loop-at-init c = ((λ text. passed_none (spelled text c.args.tokens.now)), omega arith, omega arith)

pub returns-then-opens_too_deep-clause-found : goal.returns-then-opens_too_deep-clause-found
returns-then-opens_too_deep-clause-found c = λ text.
    deep_at text c.args.tokens.now c.loop-at.brackets.opened c.loop-at.brackets.closed c.loop-at.at _ c.opens_too_deep.result
    (c.loop-at.invariant.0 text) c.loop-at-test.true c.opens_too_deep.ensures c.if-opens_too_deep.true

pub loop-at-preserved : goal.loop-at-preserved
loop-at-preserved c =
    let next : (text : List ℕ) → IsPassed (spelled text c.args.tokens.now) c.past-brackets.result.opened c.past-brackets.result.closed
    (c.loop-at.at + 1) =
    λ text. passed_at text c.args.tokens.now c.loop-at.brackets.opened c.loop-at.brackets.closed c.past-brackets.result.opened
    c.past-brackets.result.closed c.loop-at.at _ c.opens_too_deep.result (c.loop-at.invariant.0 text) c.loop-at-test.true
    c.opens_too_deep.ensures c.if-opens_too_deep.false c.past-brackets.ensures.opened c.past-brackets.ensures.closed in
    let few = few_passed (spelled [] c.args.tokens.now) c.past-brackets.result.opened c.past-brackets.result.closed (c.loop-at.at + 1)
    (next []) in
    (next, few.0, few.1)

pub returns-clause-found : goal.returns-clause-found
returns-clause-found c = λ text.
    let done : length c.args.tokens.now ≤ c.loop-at.at = omega (arith, c.loop-at-test.false) in
    none_deep text c.args.tokens.now c.loop-at.brackets.opened c.loop-at.brackets.closed c.loop-at.at (c.loop-at.invariant.0 text) done
