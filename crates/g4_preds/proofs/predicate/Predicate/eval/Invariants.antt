use Rattle.std.proofs.Common.{length, ◌-◌}
use Rattle.g4_preds.proofs.Walked.{Leads, goal_of}
use Rattle.g4_preds.proofs.predicate.Predicate.eval.Given as goal

abbrev pub invariant-loop-at : goal.invariant-loop-at
invariant-loop-at g l = Leads (g.S.Surroundings.moment l.surroundings) l.nodes l.branches l.at
    (goal_of (g.S.Surroundings.moment l.surroundings) l.nodes l.self)

abbrev pub decreases-loop-at : goal.decreases-loop-at
decreases-loop-at g l = length l.nodes - l.at
