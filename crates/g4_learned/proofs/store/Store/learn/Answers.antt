use Rattle.std.proofs.Common.{length, sym, ap, subst, arith}
use Rattle.g4_predict.specs.Paths.{path_of}
use Rattle.g4_guards.specs.Levels.{IsDecision}
use Rattle.g4_learned.specs.Stored.{IsPlan, IsStored}
use Rattle.g4_learned.specs.Tables.{Tables}
use Rattle.g4_learned.proofs.Paths.{stored_is_path}
use Rattle.g4_learned.proofs.store.Store.learn.Goals as goal

pub stored_path-requires-clause-decision : goal.stored_path-requires-clause-decision
stored_path-requires-clause-decision g c =
    subst (λ (t : Tables). IsDecision t.net c.args.path.decision) (sym c.net.ensures) c.requires.decision

pub stored_path-requires-clause-few : goal.stored_path-requires-clause-few
stored_path-requires-clause-few g c =
    let plan : IsPlan g.B.Home.plan = c.self.invariant in
    let few = plan.few in
    let starts = plan.starts in
    let same = ap (λ (t : Tables). length t.starts) c.net.ensures in
    omega arith

pub learn-learned-requires : goal.learn-learned-requires
learn-learned-requires g c =
    let (word, verdict, symbols, sll) = c.requires.sll in
    stored_is_path g.B.Home.plan c.self.invariant c.args.path.decision c.args.condition word verdict (path_of c.args.path)
    c.in_ok-stored.stored symbols sll
    (subst (λ (t : Tables). IsStored t c.args.path.decision c.args.condition (path_of c.args.path) c.in_ok-stored.stored) c.net.ensures
    c.in_ok-stored.ensures)

pub returns-clause-learned : goal.returns-clause-learned
returns-clause-learned g c = (
  c.in_ok-stored.stored,
  subst (λ (t : Tables). IsStored t c.args.path.decision c.args.condition (path_of c.args.path) c.in_ok-stored.stored) c.net.ensures
      c.in_ok-stored.ensures,
  c.learn-learned.ensures.learned,
)
