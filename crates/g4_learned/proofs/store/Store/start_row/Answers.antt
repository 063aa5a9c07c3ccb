use Rattle.std.proofs.Common.{subst}
use Rattle.g4_learned.specs.Stored.{IsPlan}
use Rattle.g4_learned.specs.Tables.{IsStartOf, Tables}
use Rattle.g4_learned.proofs.Seeing.{one_start_of}
use Rattle.g4_learned.proofs.Targets.{begins_so}
use Rattle.g4_learned.proofs.store.Store.start_row.Goals as goal

pub returns-clause-begins : goal.returns-clause-begins
returns-clause-begins g c =
    let p = g.B.Home.plan in
    let plan : IsPlan p = c.self.invariant in
    let i = c.start_of-start.result in
    let start : IsStartOf p.net c.args.decision c.args.condition i =
    subst (λ (t : Tables). IsStartOf t c.args.decision c.args.condition i) c.net.ensures.is c.start_of-start.ensures in
    begins_so p c.args.decision c.args.condition c.start_of-start.result c.args.pass.now.0 c.read_start-found.new.pass.0
    (λ j other. one_start_of p.net c.args.decision c.args.condition c.start_of-start.result j plan.tables.starts start other) start
    c.read_start-found.result c.read_start-found.ensures.found
