use Rattle.std.proofs.Common.{inr, refl, sym, ◌∙◌, ap, subst, drop, ℕ}
use Rattle.std.proofs.lemmas.List.Elements.{All-drop}
use Rattle.g4_classes.specs.Classes.{IsSymbol}
use Rattle.g4_guards.specs.Levels.{IsCondition, IsDecision}
use Rattle.g4_learned.specs.Stored.{IsStored}
use Rattle.g4_learned.specs.Tables.{Tables}
use Rattle.g4_net.specs.AddedRule.{IsReady}
use Rattle.g4_net.specs.Loops.{HasLoops}
use Rattle.g4_learned.proofs.Rests.{ends_ahead}
use Rattle.g4_predict.specs.Paths.{path_of, verdict_of}
use Rattle.g4_store.specs.Paths.{facts_of}
use Rattle.g4_tokens.specs.TokenList.{word_of}
use Rattle.g4_decide.proofs.Going.{keeps_same}
use Rattle.g4_decide.proofs.Telling.{learned_asks, learned_keeps, said_on, stored_passed}
use Rattle.g4_decide.proofs.asking.simulate_all.Goals as goal

pub simulate_at-requires-clause-ready : goal.simulate_at-requires-clause-ready
simulate_at-requires-clause-ready g c =
    subst IsReady (sym (c.net-net.ensures ∙ ap (λ (t : Tables). t.net) c.net.ensures.is)) c.net.ensures.plan.ready

pub simulate_at-requires-clause-loops : goal.simulate_at-requires-clause-loops
simulate_at-requires-clause-loops g c =
    subst HasLoops (sym (c.net-net.ensures ∙ ap (λ (t : Tables). t.net) c.net.ensures.is)) c.net.ensures.plan.loops

pub simulate_at-requires-clause-ends : goal.simulate_at-requires-clause-ends
simulate_at-requires-clause-ends g c = ends_ahead c.args.from c.args.tokens.now c.requires.ends c.requires.more

pub returns-in_err-verdict-clause-keeps : goal.returns-in_err-verdict-clause-keeps
returns-in_err-verdict-clause-keeps g c =
    keeps_same g.B.Home.plan
    (record { decision = c.args.decision; condition = c.args.condition; word = drop c.args.from (word_of c.args.tokens.now) })
    c.args.pass.now c.args.pass.now refl

pub learn-requires-clause-decision : goal.learn-requires-clause-decision
learn-requires-clause-decision g c =
    subst (IsDecision g.B.Home.plan.net.net) (sym c.in_ok-verdict.ensures.decision) c.requires.decision

pub learn-requires-clause-condition : goal.learn-requires-clause-condition
learn-requires-clause-condition g c =
    subst (λ (d : ℕ). IsCondition g.B.Home.plan.net.net d c.args.condition) (sym c.in_ok-verdict.ensures.decision) c.requires.condition

pub learn-requires-clause-sll : goal.learn-requires-clause-sll
learn-requires-clause-sll g c = (
  drop c.args.from (word_of c.args.tokens.now),
  verdict_of c.in_ok-verdict.verdict,
  All-drop IsSymbol c.args.from (word_of c.args.tokens.now) c.requires.symbols,
  said_on c.net-net.result.now g.B.Home.plan.net.net c.args.decision c.in_ok-verdict.path.decision c.args.condition c.args.from
      c.args.tokens.now (verdict_of c.in_ok-verdict.verdict) (path_of c.in_ok-verdict.path)
      (c.net-net.ensures ∙ ap (λ (t : Tables). t.net) c.net.ensures.is) c.in_ok-verdict.ensures.decision
      c.in_ok-verdict.ensures.path,
)

pub returns-in_err-learn-clause-keeps : goal.returns-in_err-learn-clause-keeps
returns-in_err-learn-clause-keeps g c =
    keeps_same g.B.Home.plan
    (record { decision = c.args.decision; condition = c.args.condition; word = drop c.args.from (word_of c.args.tokens.now) })
    c.args.pass.now c.learn.new.pass c.in_err-learn.ensures.unchanged

pub returns-clause-keeps : goal.returns-clause-keeps
returns-clause-keeps g c =
    let p = g.B.Home.plan in
    let word = drop c.args.from (word_of c.args.tokens.now) in
    let found = c.in_ok-verdict in
    let (q, is, learned) = c.in_ok-learn.ensures.learned in
    let sll = said_on c.net-net.result.now p.net.net c.args.decision c.args.decision c.args.condition c.args.from c.args.tokens.now
    (verdict_of found.verdict) (path_of found.path) (c.net-net.ensures ∙ ap (λ (t : Tables). t.net) c.net.ensures.is) refl
    found.ensures.path in
    let stored : IsStored p.net c.args.decision c.args.condition (path_of found.path) q =
    subst (λ (k : ℕ). IsStored p.net k c.args.condition (path_of found.path) q) found.ensures.decision is in
    let passed = stored_passed p c.args.decision c.args.condition word (path_of found.path) (verdict_of found.verdict) sll q stored in
    learned_keeps p c.args.decision c.args.condition word c.net.ensures.plan (verdict_of found.verdict) (facts_of q) passed (facts_of q)
    (λ f among. among) c.args.pass.now c.args.pass.now c.learn.new.pass c.in_ok-learn.field-0
    (keeps_same p (record { decision = c.args.decision; condition = c.args.condition; word = word }) c.args.pass.now c.args.pass.now refl)
    learned

pub returns-clause-asked : goal.returns-clause-asked
returns-clause-asked g c =
    let p = g.B.Home.plan in
    let word = drop c.args.from (word_of c.args.tokens.now) in
    let found = c.in_ok-verdict in
    let (q, is, learned) = c.in_ok-learn.ensures.learned in
    let sll = said_on c.net-net.result.now p.net.net c.args.decision c.args.decision c.args.condition c.args.from c.args.tokens.now
    (verdict_of found.verdict) (path_of found.path) (c.net-net.ensures ∙ ap (λ (t : Tables). t.net) c.net.ensures.is) refl
    found.ensures.path in
    let stored : IsStored p.net c.args.decision c.args.condition (path_of found.path) q =
    subst (λ (k : ℕ). IsStored p.net k c.args.condition (path_of found.path) q) found.ensures.decision is in
    let passed = stored_passed p c.args.decision c.args.condition word (path_of found.path) (verdict_of found.verdict) sll q stored in
    learned_asks p c.args.decision c.args.condition word c.net.ensures.plan (verdict_of found.verdict) (facts_of q) passed (facts_of q)
    (λ f among. among) c.args.pass.now c.args.pass.now c.learn.new.pass c.in_ok-learn.field-0
    (λ f among. inr among) refl learned c.in_ok-learn.ensures.rows
