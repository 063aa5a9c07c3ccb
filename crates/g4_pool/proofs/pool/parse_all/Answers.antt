use denote.Param.Send.{sendable}
use Rattle.std.proofs.Common.{List, arith, subst, sym}
use Rattle.g4_outcome.specs.Grammars.{with_net}
use Rattle.g4_outcome.specs.declared.input.Input.{Input}
use Rattle.g4_pool.specs.Files.{AreReports, Files, files_of}
use Rattle.g4_pool.specs.Learned.{HasLearned}
use Rattle.g4_pool.proofs.Begun.{each_begun, own_begun}
use Rattle.g4_pool.proofs.Learned.{has_learned}
use Rattle.g4_pool.proofs.Shared.{work_is_sync}
use Rattle.g4_pool.proofs.pool.parse_all.Goals as goal

pub run_all-requires-sync-W : goal.run_all-requires-sync-W
run_all-requires-sync-W g c κs within = search (work_is_sync, sendable) depth 60 fits 20000

pub run_all-requires-clause-begun : goal.run_all-requires-clause-begun
run_all-requires-clause-begun g c κs within =
    let p = g.B.Home.plan in
    let files : Files = files_of c.args.output (with_net c.args.grammar.now p.net.net) c.args.names.now g.B.InputsHome.inputs in (
      own_begun p files c.args.jobs _ c.in_ok-states.ensures.leads,
      each_begun p files c.args.jobs (λ s. s.pass) c.in_ok-states.states.items c.in_ok-states.ensures.copies,
    )

pub returns-clause-reports : goal.returns-clause-reports
returns-clause-reports g c =
    let net = g.B.Home.plan.net.net in
    subst (λ (inputs : List Input). AreReports (files_of c.args.output (with_net c.args.grammar.now net) c.args.names.now inputs)
    c.in_ok-finished.finished.outcomes.items) (sym c.requires.own.1)
    (record { long = c.in_ok-finished.ensures.outcomes.long; each = c.in_ok-finished.ensures.outcomes.each })

pub returns-clause-learned : goal.returns-clause-learned
returns-clause-learned g c complete =
    let p = g.B.Home.plan in
    let files : Files = files_of c.args.output (with_net c.args.grammar.now p.net.net) c.args.names.now g.B.InputsHome.inputs in
    let h = c.in_ok-finished.ensures.all complete in
    subst (λ (inputs : List Input).
    HasLearned p (files_of c.args.output (with_net c.args.grammar.now p.net.net) c.args.names.now inputs) c.run_all.new.state.pass)
    (sym c.requires.own.1)
    (has_learned p files c.args.jobs _ c.in_ok-finished.finished.outcomes.items
    (record { long = c.in_ok-finished.ensures.outcomes.long; each = c.in_ok-finished.ensures.outcomes.each })
    (record {
      numbers = h.numbers;
      done = h.done;
      has = h.has;
      all = λ n low. h.all n (omega (arith, low, c.in_ok-states.ensures.long));
      each = h.each;
      within = h.within;
    }))
