use Rattle.std.proofs.Common.{◌+◌, ℕ, List, drop, subst, arith, ◌∙◌}
use Rattle.std.proofs.lemmas.List.{drop_more, drop_all}
use Rattle.g4_netlist.specs.Searching.{IsUnderWay}
use Rattle.g4_netlist.proofs.search.Search.reach_all.Goals as goal

pub loop-state-preserved : goal.loop-state-preserved
loop-state-preserved c = record {
  under_way = λ net rule known. c.in_ok-reach.ensures.under_way net rule (drop (c.loop-state.state-index + 1) c.args.states.now)
      (subst (λ (left : List ℕ). IsUnderWay net rule left c.loop-state.self)
      (drop_more c.args.states.now c.loop-state.state-index 0 (omega arith)) (c.loop-state.invariant.under_way net rule known));
  work = c.in_ok-reach.ensures.work ∙ c.loop-state.invariant.work;
}

pub returns-clause-under_way : goal.returns-clause-under_way
returns-clause-under_way c =
    λ net rule known. subst (λ (left : List ℕ). IsUnderWay net rule left c.loop-state.self)
    (drop_all c.loop-state.state-index c.args.states.now (omega arith)) (c.loop-state.invariant.under_way net rule known)
