use Rattle.std.proofs.Common.{◌≡◌, ◌++◌, map, drop}
use Rattle.g4_source.specs.Trees.{element_of, alternative_of}
use Rattle.g4_source.specs.Bind.{bind, in_order_bind}
use Rattle.g4_source.proofs.substitution.+substituted.Given as goal

abbrev pub invariant-element-loop-alternative : goal.invariant-element-loop-alternative
invariant-element-loop-alternative g l =
    map alternative_of l.all.items ++ map (in_order_bind (g.S.Substitution.image l.stage))
    (map alternative_of (drop l.alternative-index l.alternative-items))
    ≡ map (in_order_bind (g.S.Substitution.image l.stage)) (map alternative_of l.alternative-items)

abbrev pub invariant-run-loop-old : goal.invariant-run-loop-old
invariant-run-loop-old g l =
    map element_of l.all.items ++ map (bind (g.S.Substitution.image l.stage)) (map element_of (drop l.old-index l.elements))
    ≡ map (bind (g.S.Substitution.image l.stage)) (map element_of l.elements)
