use Rattle.std.proofs.Common.{List, length, ap, subst, arith}
use Rattle.g4_trees.specs.declared.tree.Item.{Item}
use Rattle.g4_patterns.specs.Lasts.{AreLasts}
use Rattle.g4_patterns.proofs.subject.Subject.new.Goals as goal

pub invariant_of-result : goal.invariant_of-result
invariant_of-result c =
    record {
      few = (let same = ap length c.items-items.ensures in omega arith);
      nested = c.requires;
      lasts_are = subst (λ (xs : List Item). AreLasts xs c.in_ok-lasts.lasts.items) c.items-items.ensures c.in_ok-lasts.ensures;
    }
