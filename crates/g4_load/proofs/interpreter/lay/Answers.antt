use Rattle.std.proofs.Common.{Ok, Err, ap}
use Rattle.g4_load.specs.Building.{Lays}
use Rattle.g4_load.proofs.Built.{build_exit, gives_rewritten, parsing, reported}
use Rattle.g4_load.proofs.interpreter.lay.Goals as goal

pub returns-clause-laid : goal.returns-clause-laid
returns-clause-laid c =
    let laid = c.in_ok-laid.laid in
    reported (Lays c.args.start.now c.args.rules.now) _ _ c.in_ok-not_built-in-Err.ensures
    (build_exit c.args.start.now c.args.rules.now _
    (gives_rewritten c.args.start.now c.args.rules.now laid.0 laid.1 (Err c.in-Err.fault) (ap (λ l. l.0) c.in_ok-laid.ensures)
    (ap (λ l. l.1) c.in_ok-laid.ensures) c.in-Err.ensures.built))

pub returns-in-Ok-clause-laid : goal.returns-in-Ok-clause-laid
returns-in-Ok-clause-laid c =
    let laid = c.in_ok-laid.laid in
    gives_rewritten c.args.start.now c.args.rules.now laid.0 laid.1 (Ok c.in-Ok.net) (ap (λ l. l.0) c.in_ok-laid.ensures)
    (ap (λ l. l.1) c.in_ok-laid.ensures) c.in-Ok.ensures.built

pub returns-in-Ok-clause-parsing : goal.returns-in-Ok-clause-parsing
returns-in-Ok-clause-parsing c =
    let laid = c.in_ok-laid.laid in
    parsing c.args.start.now c.args.rules.now laid.0 laid.1 c.in-Ok.net (ap (λ l. l.0) c.in_ok-laid.ensures)
    (ap (λ l. l.1) c.in_ok-laid.ensures) c.in-Ok.ensures.built
