use Rattle.std.proofs.Common.{◌≡◌, Contains, length, sym, ◌∙◌, ap, subst}
use Rattle.g4_configs.specs.Configs.{Holds}
use Rattle.g4_learned.specs.Tables.{Tables}
use Rattle.g4_net.specs.Configurations.{IsWithin}
use Rattle.g4_net.specs.declared.network.TheConstants.{MOST_STATES}
use Rattle.std.specs.Prelude.{◌≤◌}
use Rattle.g4_net.specs.Leads.{WellFormed}
use Rattle.g4_net.specs.Lookahead.{Next}
use Rattle.g4_net.specs.Network.{ParserNetwork}
use Rattle.g4_predict.proofs.Reached.{reached_is_within}
use Rattle.g4_predict.specs.declared.sll.Seen.{Seen}
use Rattle.g4_predict.specs.Paths.{verdict_of}
use Rattle.g4_predict.specs.Verdicts.{IsSeen}
use Rattle.g4_decide.proofs.Going.{asked_from, came_kept, here_reached, here_row, keeps_on, keeps_same, next_symbol}
use Rattle.g4_decide.proofs.Steps.{ends_led, made_end, made_end_keeps, seen_here}
use Rattle.g4_decide.specs.Asked.{Told}
use Rattle.g4_decide.specs.Going.{IsStep}
use Rattle.g4_decide.proofs.stepping.make_step.Goals as goal

pub set_of-requires : goal.set_of-requires
set_of-requires g c = let (q, (came, has), next) = c.requires in (came.content, came.known, has)

pub look-requires-clause-well_formed : goal.look-requires-clause-well_formed
look-requires-clause-well_formed g c =
    let (q, (came, has), next) = c.requires in
    let own : c.net-net.result.now ≡ g.B.Home.plan.net.net = c.net-net.ensures ∙ ap (λ (t : Tables). t.net) c.net.ensures.is in
    let (rule, loop, set, runnable) = came.plan.ready in
    subst WellFormed (sym own) runnable.well_formed

pub look-requires-clause-few : goal.look-requires-clause-few
look-requires-clause-few g c =
    let (q, (came, has), next) = c.requires in
    let own : c.net-net.result.now ≡ g.B.Home.plan.net.net = c.net-net.ensures ∙ ap (λ (t : Tables). t.net) c.net.ensures.is in
    let (rule, loop, set, runnable) = came.plan.ready in
    subst (λ (n : ParserNetwork). length n.states ≤ MOST_STATES) (sym own) runnable.few

pub look-requires-clause-within : goal.look-requires-clause-within
look-requires-clause-within g c = λ d member.
    let (q, (came, has), next) = c.requires in
    let own : c.net-net.result.now ≡ g.B.Home.plan.net.net = c.net-net.ensures ∙ ap (λ (t : Tables). t.net) c.net.ensures.is in
    let (rule, loop, set, runnable) = came.plan.ready in
    let is = c.in_ok-set.ensures.set came.content came.known has in
    subst (λ (n : ParserNetwork). IsWithin n d) (sym own)
    (reached_is_within g.B.Home.plan.net.net runnable.well_formed d
    (here_reached g.B.Home.plan q c.args.at c.args.here.row c.args.pass.now came d ((is.exactly d).1 member)))

pub returns-in_err-set-clause-keeps : goal.returns-in_err-set-clause-keeps
returns-in_err-set-clause-keeps g c = λ q here next.
    keeps_same g.B.Home.plan q c.args.pass.now c.set_of.new.pass c.set_of.ensures.same

pub returns-in_err-seen-clause-keeps : goal.returns-in_err-seen-clause-keeps
returns-in_err-seen-clause-keeps g c = λ q here next.
    keeps_same g.B.Home.plan q c.args.pass.now c.set_of.new.pass c.set_of.ensures.same

pub learn_step-requires : goal.learn_step-requires
learn_step-requires g c =
    let p = g.B.Home.plan in
    let (q, (came, has), next) = c.requires in
    let old = c.args.pass.now in
    let mid = c.set_of.new.pass in
    let k = c.args.at in
    let row = c.args.here.row in
    let a = c.args.symbol in
    let here = came_kept p q k row old came mid (keeps_same p q old mid c.set_of.ensures.same) in
    let own : c.net-net.result.now ≡ p.net.net = c.net-net.ensures ∙ ap (λ (t : Tables). t.net) c.net.ensures.is in
    let is = c.in_ok-set.ensures.set came.content came.known has in
    let ends = subst (λ (s : Seen). IsSeen p.net.net (Next p.net.net (Contains came.content) a) k s) c.in-Ended.is
    (seen_here c.net-net.result.now p.net.net own came.content (Holds c.in_ok-set.set) is a k c.in_ok-seen.seen c.in_ok-seen.ensures) in (
      here.content,
      here.known,
      here_row p q k row mid here,
      next_symbol p q k row mid here a next,
      ends_led p q k row mid here a next c.in-Ended.verdict ends,
    )

pub returns-in_err-learn_step-in-Ended-clause-keeps : goal.returns-in_err-learn_step-in-Ended-clause-keeps
returns-in_err-learn_step-in-Ended-clause-keeps g c = λ q here next.
    keeps_same g.B.Home.plan q c.args.pass.now c.learn_step.new.pass
    (c.in_err-learn_step-in-Ended.ensures.unchanged ∙ c.set_of.ensures.same)

pub returns-in_ok-learn_step-in-Ended-clause-keeps : goal.returns-in_ok-learn_step-in-Ended-clause-keeps
returns-in_ok-learn_step-in-Ended-clause-keeps g c = λ q (came, has) next.
    let p = g.B.Home.plan in
    let old = c.args.pass.now in
    let mid = c.set_of.new.pass in
    let k = c.args.at in
    let row = c.args.here.row in
    let a = c.args.symbol in
    let kept = keeps_same p q old mid c.set_of.ensures.same in
    let here = came_kept p q k row old came mid kept in
    let own : c.net-net.result.now ≡ p.net.net = c.net-net.ensures ∙ ap (λ (t : Tables). t.net) c.net.ensures.is in
    let is = c.in_ok-set.ensures.set came.content came.known has in
    let ends = subst (λ (s : Seen). IsSeen p.net.net (Next p.net.net (Contains came.content) a) k s) c.in-Ended.is
    (seen_here c.net-net.result.now p.net.net own came.content (Holds c.in_ok-set.set) is a k c.in_ok-seen.seen c.in_ok-seen.ensures) in
    keeps_on p q old mid c.learn_step.new.pass kept
    (made_end_keeps p q k row mid here a next c.in-Ended.verdict ends c.learn_step.new.pass c.in_ok-learn_step-in-Ended.field-0
    (c.in_ok-learn_step-in-Ended.ensures.learned here.content here.known))

pub returns-in_ok-learn_step-in-Ended-clause-step : goal.returns-in_ok-learn_step-in-Ended-clause-step
returns-in_ok-learn_step-in-Ended-clause-step g c = λ q (came, has) next.
    let p = g.B.Home.plan in
    let old = c.args.pass.now in
    let mid = c.set_of.new.pass in
    let k = c.args.at in
    let row = c.args.here.row in
    let a = c.args.symbol in
    let kept = keeps_same p q old mid c.set_of.ensures.same in
    let here = came_kept p q k row old came mid kept in
    let own : c.net-net.result.now ≡ p.net.net = c.net-net.ensures ∙ ap (λ (t : Tables). t.net) c.net.ensures.is in
    let is = c.in_ok-set.ensures.set came.content came.known has in
    let ends = subst (λ (s : Seen). IsSeen p.net.net (Next p.net.net (Contains came.content) a) k s) c.in-Ended.is
    (seen_here c.net-net.result.now p.net.net own came.content (Holds c.in_ok-set.set) is a k c.in_ok-seen.seen c.in_ok-seen.ensures) in
    asked_from p q old mid c.learn_step.new.pass (verdict_of c.in-Ended.verdict) (ap (λ (t : Told). t.1) c.set_of.ensures.same)
    (made_end p q k row mid here a next c.in-Ended.verdict ends c.learn_step.new.pass c.in_ok-learn_step-in-Ended.field-0
    (c.in_ok-learn_step-in-Ended.ensures.learned here.content here.known) c.in_ok-learn_step-in-Ended.ensures.rows)

pub learn_row-requires : goal.learn_row-requires
learn_row-requires g c =
    let p = g.B.Home.plan in
    let (q, (came, has), next) = c.requires in
    let old = c.args.pass.now in
    let mid = c.set_of.new.pass in
    let k = c.args.at in
    let row = c.args.here.row in
    let a = c.args.symbol in
    let here = came_kept p q k row old came mid (keeps_same p q old mid c.set_of.ensures.same) in
    let own : c.net-net.result.now ≡ p.net.net = c.net-net.ensures ∙ ap (λ (t : Tables). t.net) c.net.ensures.is in
    let is = c.in_ok-set.ensures.set came.content came.known has in (
      q,
      here,
      next,
      subst (λ (s : Seen). IsSeen p.net.net (Next p.net.net (Contains came.content) a) k s) c.in-Onward.is
          (seen_here c.net-net.result.now p.net.net own came.content (Holds c.in_ok-set.set) is a k c.in_ok-seen.seen
          c.in_ok-seen.ensures),
    )

pub returns-in_err-step-in-Onward-clause-keeps : goal.returns-in_err-step-in-Onward-clause-keeps
returns-in_err-step-in-Onward-clause-keeps g c = λ q (came, has) next.
    let p = g.B.Home.plan in
    let old = c.args.pass.now in
    let mid = c.set_of.new.pass in
    let k = c.args.at in
    let row = c.args.here.row in
    let a = c.args.symbol in
    let kept = keeps_same p q old mid c.set_of.ensures.same in
    let here = came_kept p q k row old came mid kept in
    let own : c.net-net.result.now ≡ p.net.net = c.net-net.ensures ∙ ap (λ (t : Tables). t.net) c.net.ensures.is in
    let is = c.in_ok-set.ensures.set came.content came.known has in
    let onward = subst (λ (s : Seen). IsSeen p.net.net (Next p.net.net (Contains came.content) a) k s) c.in-Onward.is
    (seen_here c.net-net.result.now p.net.net own came.content (Holds c.in_ok-set.set) is a k c.in_ok-seen.seen c.in_ok-seen.ensures) in
    keeps_on p q old mid c.learn_row.new.pass kept (c.in_err-step-in-Onward.ensures.keeps q here next onward)

pub returns-in_ok-step-in-Onward-clause-keeps : goal.returns-in_ok-step-in-Onward-clause-keeps
returns-in_ok-step-in-Onward-clause-keeps g c = λ q (came, has) next.
    let p = g.B.Home.plan in
    let old = c.args.pass.now in
    let mid = c.set_of.new.pass in
    let k = c.args.at in
    let row = c.args.here.row in
    let a = c.args.symbol in
    let kept = keeps_same p q old mid c.set_of.ensures.same in
    let here = came_kept p q k row old came mid kept in
    let own : c.net-net.result.now ≡ p.net.net = c.net-net.ensures ∙ ap (λ (t : Tables). t.net) c.net.ensures.is in
    let is = c.in_ok-set.ensures.set came.content came.known has in
    let onward = subst (λ (s : Seen). IsSeen p.net.net (Next p.net.net (Contains came.content) a) k s) c.in-Onward.is
    (seen_here c.net-net.result.now p.net.net own came.content (Holds c.in_ok-set.set) is a k c.in_ok-seen.seen c.in_ok-seen.ensures) in
    keeps_on p q old mid c.learn_row.new.pass kept (c.in_ok-step-in-Onward.ensures.keeps q here next onward)

pub returns-in_ok-step-in-Onward-clause-step : goal.returns-in_ok-step-in-Onward-clause-step
returns-in_ok-step-in-Onward-clause-step g c = λ q (came, has) next.
    let p = g.B.Home.plan in
    let old = c.args.pass.now in
    let mid = c.set_of.new.pass in
    let k = c.args.at in
    let row = c.args.here.row in
    let a = c.args.symbol in
    let kept = keeps_same p q old mid c.set_of.ensures.same in
    let here = came_kept p q k row old came mid kept in
    let own : c.net-net.result.now ≡ p.net.net = c.net-net.ensures ∙ ap (λ (t : Tables). t.net) c.net.ensures.is in
    let is = c.in_ok-set.ensures.set came.content came.known has in
    let onward = subst (λ (s : Seen). IsSeen p.net.net (Next p.net.net (Contains came.content) a) k s) c.in-Onward.is
    (seen_here c.net-net.result.now p.net.net own came.content (Holds c.in_ok-set.set) is a k c.in_ok-seen.seen c.in_ok-seen.ensures) in
    subst (λ (t : Told). IsStep p q k t c.learn_row.new.pass c.in_ok-step-in-Onward.step) c.set_of.ensures.same
    (c.in_ok-step-in-Onward.ensures.step q here next onward)
