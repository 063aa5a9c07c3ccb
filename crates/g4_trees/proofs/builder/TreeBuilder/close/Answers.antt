use Rattle.std.proofs.Common.{refl}
use Rattle.g4_trees.proofs.Steps.{closes}
use Rattle.g4_trees.proofs.builder.TreeBuilder.close.Goals as goal

pub returns : goal.returns
returns c = λ g h. closes c.args.self.now _ c.in-Some._enter g c.in_ok-push.ensures.items c.in-Some.ensures.items refl h
