use Rattle.std.proofs.Common.{◌≡◌, [], ◌∷◌, List, length, sym, ◌∙◌, ap, subst, map, arith}
use Rattle.g4_guards.specs.Levels.{IsCondition, IsDecision}
use Rattle.g4_learned.specs.Stored.{IsPlan, IsStored}
use Rattle.g4_learned.specs.Tables.{Tables}
use Rattle.g4_learned.proofs.Targets.{start_facts, start_is_path}
use Rattle.g4_net.specs.Configurations.{Config}
use Rattle.g4_predict.specs.declared.path.Path as code
use Rattle.g4_predict.specs.Paths.{looked_of, path_of}
use Rattle.g4_store.specs.declared.automaton.Fact.{Fact}
use Rattle.g4_store.specs.Learned.{IsLearned}
use Rattle.g4_learned.proofs.store.Store.learn_start.Goals as goal

pub stored_path-requires-clause-decision : goal.stored_path-requires-clause-decision
stored_path-requires-clause-decision g c = subst (λ (t : Tables). IsDecision t.net c.args.decision) (sym c.net.ensures) c.requires.decision

pub stored_path-requires-clause-condition : goal.stored_path-requires-clause-condition
stored_path-requires-clause-condition g c =
    subst (λ (t : Tables). IsCondition t.net c.args.decision c.args.condition) (sym c.net.ensures) c.requires.condition

pub stored_path-requires-clause-few : goal.stored_path-requires-clause-few
stored_path-requires-clause-few g c =
    let plan : IsPlan g.B.Home.plan = c.self.invariant in
    let few = plan.few in
    let starts = plan.starts in
    let same = ap (λ (t : Tables). length t.starts) c.net.ensures in
    omega arith

pub learn-learned-requires : goal.learn-learned-requires
learn-learned-requires g c =
    let p = g.B.Home.plan in
    let path : code.Path = record { decision = c.args.decision; start = c.args.start; looked = c.new-looked.result } in
    let none = ap (map looked_of) (c.new-looked.ensures ∙ c.new.ensures.items) in
    let stored : IsStored p.net c.args.decision c.args.condition (path_of path) c.in_ok-stored.stored =
    subst (λ (t : Tables). IsStored t c.args.decision c.args.condition (path_of path) c.in_ok-stored.stored) c.net.ensures
    c.in_ok-stored.ensures in
    start_is_path p c.self.invariant c.args.decision c.args.condition (path_of path) c.in_ok-stored.stored none c.requires.start stored

pub returns-clause-learned : goal.returns-clause-learned
returns-clause-learned g c =
    let p = g.B.Home.plan in
    let path : code.Path = record { decision = c.args.decision; start = c.args.start; looked = c.new-looked.result } in
    let none = ap (map looked_of) (c.new-looked.ensures ∙ c.new.ensures.items) in
    let stored : IsStored p.net c.args.decision c.args.condition (path_of path) c.in_ok-stored.stored =
    subst (λ (t : Tables). IsStored t c.args.decision c.args.condition (path_of path) c.in_ok-stored.stored) c.net.ensures
    c.in_ok-stored.ensures in (
      c.in_ok-stored.stored.start,
      stored.start,
      subst (λ (fs : List (Fact (List Config))). IsLearned p.rows fs c.args.pass.now c.learn-learned.new.pass c.learn-learned.result)
          (start_facts p c.self.invariant c.args.decision c.args.condition (path_of path) c.in_ok-stored.stored none stored)
          c.learn-learned.ensures.learned,
    )
