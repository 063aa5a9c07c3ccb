use Rattle.std.proofs.Common.{refl}
use Rattle.g4_trees.proofs.Steps.{takes}
use Rattle.g4_trees.proofs.builder.TreeBuilder.token.Goals as goal

-- src/builder.rt:57:5
pub returns : goal.returns
returns c = λ g h. takes c.args.self.now _ c.args.at g c.in_ok-push.ensures.items refl refl h
