use Rattle.std.proofs.Common.{ℕ, List, Option, Some, None, IfSome, ◌∙◌}
use Rattle.g4_stacks.specs.Graph.{Content}
use Rattle.g4_stacks.specs.Merge.{IsUnion}
use Rattle.g4_stacks.proofs.Keys.{IsKey, union_key}
use Rattle.g4_stacks.proofs.Memo.{known_before, means_before}
use Rattle.g4_stacks.proofs.graph.Graph.merged_before.Goals as goal

of_key : (g : List Content) (a b x y : ℕ) (o : Option ℕ) → IsKey a b x y → IfSome o (λ n. IsUnion g x y g n)
    → IfSome o (λ n. IsUnion g a b g n)
of_key g a b x y None key means = tt
of_key g a b x y (Some r) key means = union_key g a b x y r key means

pub returns-clause-known : goal.returns-clause-known
returns-clause-known c =
    known_before c.self.inside.table c.args.self.now c.self.inside.merged.entries c.ordered.result.0 c.ordered.result.1 c.self.view_is
    c.self.invariant.memo c.copied.result (c.copied.ensures ∙ c.get.ensures.value)

pub returns-clause-means : goal.returns-clause-means
returns-clause-means c =
    of_key c.args.self.now c.args.a c.args.b c.ordered.result.0 c.ordered.result.1 c.copied.result c.ordered.ensures
    (means_before c.self.inside.table c.args.self.now c.self.inside.merged.entries c.ordered.result.0 c.ordered.result.1 c.self.view_is
    c.self.invariant.memo c.copied.result (c.copied.ensures ∙ c.get.ensures.value))
