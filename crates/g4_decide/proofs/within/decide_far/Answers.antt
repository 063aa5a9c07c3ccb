use Rattle.std.specs.Prelude.{IfSome}
use Rattle.std.proofs.Common.{drop, reverse, sym, ◌∙◌, ap, subst}
use Rattle.g4_fits.specs.Fitting.{IsLeastThatFits}
use Rattle.g4_guards.specs.Levels.{AllowedAt, IsCondition}
use Rattle.g4_learned.specs.Tables.{Tables}
use Rattle.g4_net.specs.AddedRule.{IsReady}
use Rattle.g4_net.specs.Loops.{HasLoops}
use Rattle.g4_net.specs.Network.{ParserNetwork}
use Rattle.g4_net.specs.Proper.{IsProper}
use Rattle.g4_tokens.specs.TokenList.{word_of}
use Rattle.g4_decide.specs.Deciding.{IsSensitive}
use Rattle.g4_decide.proofs.within.decide_far.Goals as goal

pub decide_within-requires-clause-own : goal.decide_within-requires-clause-own
decide_within-requires-clause-own g c = c.net.ensures ∙ ap (λ (t : Tables). t.net) c.net-net.ensures.is

pub decide_within-requires-clause-ready : goal.decide_within-requires-clause-ready
decide_within-requires-clause-ready g c =
    subst IsReady (sym (c.net.ensures ∙ ap (λ (t : Tables). t.net) c.net-net.ensures.is)) c.net-net.ensures.plan.ready

pub decide_within-requires-clause-loops : goal.decide_within-requires-clause-loops
decide_within-requires-clause-loops g c =
    subst HasLoops (sym (c.net.ensures ∙ ap (λ (t : Tables). t.net) c.net-net.ensures.is)) c.net-net.ensures.plan.loops

pub decide_within-requires-clause-condition : goal.decide_within-requires-clause-condition
decide_within-requires-clause-condition g c =
    subst (λ (n : ParserNetwork). IsCondition n c.args.decision c.args.condition)
    (sym (c.net.ensures ∙ ap (λ (t : Tables). t.net) c.net-net.ensures.is)) c.requires.condition

pub decide_within-requires-clause-proper : goal.decide_within-requires-clause-proper
decide_within-requires-clause-proper g c =
    subst (λ (n : ParserNetwork). IsProper n c.args.decision (reverse c.args.returns.now))
    (sym (c.net.ensures ∙ ap (λ (t : Tables). t.net) c.net-net.ensures.is)) c.requires.proper

pub decide_within-requires-clause-matters : goal.decide_within-requires-clause-matters
decide_within-requires-clause-matters g c =
    subst (λ (n : ParserNetwork). IsSensitive n c.args.decision c.args.condition (drop c.args.from (word_of c.args.tokens.now)))
    (sym (c.net.ensures ∙ ap (λ (t : Tables). t.net) c.net-net.ensures.is)) c.requires.matters

pub decide_within-requires-clause-known : goal.decide_within-requires-clause-known
decide_within-requires-clause-known g c =
    subst (λ (n : ParserNetwork). IfSome c.args.known (IsLeastThatFits n c.args.decision (AllowedAt n c.args.decision c.args.condition)
    (reverse c.args.returns.now) (drop c.args.from (word_of c.args.tokens.now))))
    (sym (c.net.ensures ∙ ap (λ (t : Tables). t.net) c.net-net.ensures.is)) c.requires.known
