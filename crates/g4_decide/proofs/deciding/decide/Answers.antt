use Rattle.std.specs.Prelude.{IfSome}
use Rattle.std.proofs.Common.{refl, sym, ◌∙◌, ap, subst, drop, reverse, arith, true≢false}
use Rattle.g4_learned.specs.Tables.{Tables}
use Rattle.g4_net.specs.AddedRule.{IsReady}
use Rattle.g4_net.specs.Loops.{HasLoops}
use Rattle.g4_net.specs.Network.{ParserNetwork}
use Rattle.g4_net.specs.Proper.{IsProper}
use Rattle.g4_predict.specs.declared.verdict.Verdict.TheVariants.{Answer, ErrorAt, Sensitive}
use Rattle.g4_tokens.specs.TokenList.{word_of}
use Rattle.g4_fits.specs.Fitting.{IsLeastThatFits}
use Rattle.g4_guards.specs.Levels.{AllowedAt, IsCondition}
use Rattle.g4_decide.specs.Deciding.{IsDecided, IsSensitive}
use Rattle.g4_decide.proofs.Choosing.{answered, failed, matters, said_is, within_tokens}
use Rattle.g4_decide.proofs.deciding.decide.Goals as goal

pub decide_within-requires-clause-own : goal.decide_within-requires-clause-own
decide_within-requires-clause-own g c = c.net.ensures ∙ ap (λ (t : Tables). t.net) c.net-net.ensures.is

pub decide_within-requires-clause-ready : goal.decide_within-requires-clause-ready
decide_within-requires-clause-ready g c =
    subst IsReady (sym (c.net.ensures ∙ ap (λ (t : Tables). t.net) c.net-net.ensures.is)) c.net-net.ensures.plan.ready

pub decide_within-requires-clause-loops : goal.decide_within-requires-clause-loops
decide_within-requires-clause-loops g c =
    subst HasLoops (sym (c.net.ensures ∙ ap (λ (t : Tables). t.net) c.net-net.ensures.is)) c.net-net.ensures.plan.loops

pub decide_within-requires-clause-proper : goal.decide_within-requires-clause-proper
decide_within-requires-clause-proper g c =
    subst (λ (n : ParserNetwork). IsProper n c.args.decision (reverse c.args.returns.now))
    (sym (c.net.ensures ∙ ap (λ (t : Tables). t.net) c.net-net.ensures.is)) c.requires.proper

pub decide_within-requires-clause-condition : goal.decide_within-requires-clause-condition
decide_within-requires-clause-condition g c =
    subst (λ (n : ParserNetwork). IsCondition n c.args.decision c.args.condition)
    (sym (c.net.ensures ∙ ap (λ (t : Tables). t.net) c.net-net.ensures.is)) c.requires.condition

pub decide_within-requires-clause-matters : goal.decide_within-requires-clause-matters
decide_within-requires-clause-matters g c =
    subst (λ (n : ParserNetwork). IsSensitive n c.args.decision c.args.condition (drop c.args.from (word_of c.args.tokens.now)))
    (sym (c.net.ensures ∙ ap (λ (t : Tables). t.net) c.net-net.ensures.is)) (
      c.in-Sensitive.field-0,
      c.in_ok-alternative.ensures.asked.passed.path,
      said_is g.B.Home.plan.net.net c.args.decision c.args.condition (drop c.args.from
          (word_of c.args.tokens.now)) c.in_ok-alternative.field-0 (Sensitive c.in-Sensitive.field-0)
          c.in_ok-alternative.ensures.asked.passed.path c.in-Sensitive.is c.in_ok-alternative.ensures.asked.passed.sll,
    )

pub decide_within-requires-clause-known : goal.decide_within-requires-clause-known
decide_within-requires-clause-known g c =
    subst (λ (n : ParserNetwork). IfSome c.args.known (IsLeastThatFits n c.args.decision (AllowedAt n c.args.decision c.args.condition)
    (reverse c.args.returns.now) (drop c.args.from (word_of c.args.tokens.now))))
    (sym (c.net.ensures ∙ ap (λ (t : Tables). t.net) c.net-net.ensures.is)) c.requires.known

pub returns-in-Answer-clause-decided : goal.returns-in-Answer-clause-decided
returns-in-Answer-clause-decided g c =
    answered g.B.Home.plan.net.net c.args.decision c.args.condition c.requires.condition (drop c.args.from (word_of c.args.tokens.now))
    (reverse c.args.returns.now) c.in-Answer.alternative c.in_ok-alternative.ensures.asked.passed.path
    (said_is g.B.Home.plan.net.net c.args.decision c.args.condition (drop c.args.from
    (word_of c.args.tokens.now)) c.in_ok-alternative.field-0 (Answer c.in-Answer.alternative)
    c.in_ok-alternative.ensures.asked.passed.path c.in-Answer.is c.in_ok-alternative.ensures.asked.passed.sll)

pub returns-in-Answer-clause-walked : goal.returns-in-Answer-clause-walked
returns-in-Answer-clause-walked g c = λ v facts seen. ((c.in_ok-alternative.ensures.walked v facts seen).1, λ settles. tt)

pub overflow_add-result : goal.overflow_add-result
overflow_add-result g c =
    let choice = failed g.B.Home.plan.net.net c.args.decision c.args.condition c.requires.condition (drop c.args.from
    (word_of c.args.tokens.now))
    (reverse c.args.returns.now) c.in-ErrorAt.k c.in_ok-alternative.ensures.asked.passed.path
    (said_is g.B.Home.plan.net.net c.args.decision c.args.condition (drop c.args.from
    (word_of c.args.tokens.now)) c.in_ok-alternative.field-0 (ErrorAt c.in-ErrorAt.k)
    c.in_ok-alternative.ensures.asked.passed.path c.in-ErrorAt.is c.in_ok-alternative.ensures.asked.passed.sll) in
    let less = within_tokens c.args.from c.in-ErrorAt.k c.args.tokens.now c.requires.more choice.1 in
    omega (arith, c.requires.few)

pub returns-in-ErrorAt-clause-decided : goal.returns-in-ErrorAt-clause-decided
returns-in-ErrorAt-clause-decided g c =
    let choice = failed g.B.Home.plan.net.net c.args.decision c.args.condition c.requires.condition (drop c.args.from
    (word_of c.args.tokens.now))
    (reverse c.args.returns.now) c.in-ErrorAt.k c.in_ok-alternative.ensures.asked.passed.path
    (said_is g.B.Home.plan.net.net c.args.decision c.args.condition (drop c.args.from
    (word_of c.args.tokens.now)) c.in_ok-alternative.field-0 (ErrorAt c.in-ErrorAt.k)
    c.in_ok-alternative.ensures.asked.passed.path c.in-ErrorAt.is c.in_ok-alternative.ensures.asked.passed.sll) in
    (c.in-ErrorAt.k, choice.0, refl)

pub returns-in-ErrorAt-clause-walked : goal.returns-in-ErrorAt-clause-walked
returns-in-ErrorAt-clause-walked g c = λ v facts seen. ((c.in_ok-alternative.ensures.walked v facts seen).1, λ settles. tt)

pub returns-in-Sensitive-clause-decided : goal.returns-in-Sensitive-clause-decided
returns-in-Sensitive-clause-decided g c =
    subst (λ (n : ParserNetwork). IsDecided n c.args.decision c.args.condition (reverse c.args.returns.now)
    (drop c.args.from (word_of c.args.tokens.now)) c.args.from c.decide_within.result)
    (c.net.ensures ∙ ap (λ (t : Tables). t.net) c.net-net.ensures.is) c.decide_within.ensures.decided

pub returns-in-Sensitive-clause-walked : goal.returns-in-Sensitive-clause-walked
returns-in-Sensitive-clause-walked g c = λ v facts seen. (
  (c.in_ok-alternative.ensures.walked v facts seen).1,
  λ settles. absurd (matters g.B.Home.plan c.net-net.ensures.plan c.args.decision c.args.condition c.in-Sensitive.field-0
      (drop c.args.from (word_of c.args.tokens.now)) c.in_ok-alternative.field-0 v c.in_ok-alternative.ensures.asked.facts facts
      c.in-Sensitive.is c.in_ok-alternative.ensures.asked.passed seen.0 settles),
)

pub returns-in_err-alternative-clause-walked : goal.returns-in_err-alternative-clause-walked
returns-in_err-alternative-clause-walked g c = λ v facts seen.
    absurd (true≢false (sym (c.in_err-alternative.ensures.walked v facts seen).0))
