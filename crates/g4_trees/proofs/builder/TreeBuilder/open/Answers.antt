use Rattle.std.proofs.Common.{rules, ◌≡◌, ◌∷◌, [], ℕ, length, ◌++◌, refl, ◌∙◌, ap}
use Rattle.g4_trees.proofs.Steps.{opens}
use Rattle.g4_trees.proofs.builder.TreeBuilder.open.Goals as goal

pub returns : goal.returns
returns c = λ g h. let place : c.len.result ≡ length c.args.self.now.items.items = search rules in
    opens c.args.self.now _ c.args.rule c.args.alt c.args.at g c.in_ok-push-2.ensures.items
    (c.in_ok-push.ensures.items ∙ ap (λ (k : ℕ). c.args.self.now.enters.items ++ k ∷ []) place) refl h
