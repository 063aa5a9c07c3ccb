use Rattle.g4_patterns_tests.proofs.Built.{token_after}
use Rattle.g4_patterns_tests.proofs.trees.Trees.with_token.Goals as goal

pub invariant_of-result : goal.invariant_of-result
invariant_of-result c =
    token_after c.self.inside.items.items c.push.new.self.items c.args.at c.self.invariant c.in_ok-push.ensures.items
