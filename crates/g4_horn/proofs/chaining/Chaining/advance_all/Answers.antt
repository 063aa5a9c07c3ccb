use Rattle.std.proofs.Common.{◌+◌, List, drop, subst, arith, ◌∙◌}
use Rattle.std.proofs.lemmas.List.{drop_more, drop_all}
use Rattle.g4_horn.specs.declared.chaining.Wait.{Wait}
use Rattle.g4_horn.specs.Chaining.{IsUnderWay}
use Rattle.g4_horn.proofs.chaining.Chaining.advance_all.Goals as goal

pub loop-wait-preserved : goal.loop-wait-preserved
loop-wait-preserved c = record {
  under_way = λ count known. c.in_ok-advance.ensures.under_way count (drop (c.loop-wait.wait-index + 1) c.args.waits.now)
      (subst (λ (left : List Wait). IsUnderWay c.args.clauses.now count left c.loop-wait.self)
      (drop_more c.args.waits.now c.loop-wait.wait-index _ (omega arith)) (c.loop-wait.invariant.under_way count known));
  work = c.in_ok-advance.ensures.work ∙ c.loop-wait.invariant.work;
  count = c.advance.ensures.count ∙ c.loop-wait.invariant.count;
}

pub returns-clause-under_way : goal.returns-clause-under_way
returns-clause-under_way c =
    λ count known. subst (λ (left : List Wait). IsUnderWay c.args.clauses.now count left c.loop-wait.self)
    (drop_all c.loop-wait.wait-index c.args.waits.now (omega arith)) (c.loop-wait.invariant.under_way count known)
