use Rattle.std.proofs.Common.{rules, ◌≡◌, ◌*◌, ◌∷◌, [], map}
use Rattle.g4_closure.specs.Steps.{placed}
use Rattle.g4_closure.proofs.Stepping.{placed_known, one_moved, all_moved, called, arm, listed, known_listed}
use Rattle.g4_closure.proofs.closure.steps.Goals as goal

pub returns-in_ok-push_each-in-Decision-clause-known : goal.returns-in_ok-push_each-in-Decision-clause-known
returns-in_ok-push_each-in-Decision-clause-known c =
    let is : c.push_each.new.found.items ≡ map (placed c.args.group.alternative c.args.group.stacks) c.in-Decision.targets = search rules in
    known_listed c.args.set.now.graph _ _ is (placed_known c.args.set.now.graph c.args.group.alternative c.args.group.stacks _
    c.requires.stacks)

pub returns-in_ok-push_each-in-Decision-clause-means : goal.returns-in_ok-push_each-in-Decision-clause-means
returns-in_ok-push_each-in-Decision-clause-means c =
    let is : c.push_each.new.found.items ≡ map (placed c.args.group.alternative c.args.group.stacks) c.in-Decision.targets = search rules in
    arm c.args.net.now c.args.set.now.graph c.args.set.now.graph c.args.group _ _ _ c.in-Decision.is
    (listed c.args.set.now.graph _ _ _ is (all_moved c.args.set.now.graph c.args.group c.in-Decision.targets))

pub returns-in_ok-push_each-in-Empty-clause-means : goal.returns-in_ok-push_each-in-Empty-clause-means
returns-in_ok-push_each-in-Empty-clause-means c =
    let is : c.push_each-in-Empty.new.found.items ≡ placed c.args.group.alternative c.args.group.stacks c.in-Empty.to ∷ [] = search rules in
    arm c.args.net.now c.args.set.now.graph c.args.set.now.graph c.args.group _ _ _ c.in-Empty.is
    (one_moved c.args.set.now.graph c.args.group _ _ is)

pub returns-in_ok-push_each-in-Predicate-clause-means : goal.returns-in_ok-push_each-in-Predicate-clause-means
returns-in_ok-push_each-in-Predicate-clause-means c =
    let is : c.push_each-in-Predicate.new.found.items ≡ placed c.args.group.alternative c.args.group.stacks c.in-Predicate.to ∷ [] =
    search rules in
    arm c.args.net.now c.args.set.now.graph c.args.set.now.graph c.args.group _ _ _ c.in-Predicate.is
    (one_moved c.args.set.now.graph c.args.group _ _ is)

pub returns-in_ok-push_each-in-Level-clause-means : goal.returns-in_ok-push_each-in-Level-clause-means
returns-in_ok-push_each-in-Level-clause-means c =
    let is : c.push_each-in-Level.new.found.items ≡ placed c.args.group.alternative c.args.group.stacks c.in-Level.to ∷ [] = search rules in
    arm c.args.net.now c.args.set.now.graph c.args.set.now.graph c.args.group _ _ _ c.in-Level.is
    (one_moved c.args.set.now.graph c.args.group _ _ is)

pub returns-in_ok-push_each-in-Action-clause-means : goal.returns-in_ok-push_each-in-Action-clause-means
returns-in_ok-push_each-in-Action-clause-means c =
    let is : c.push_each-in-Action.new.found.items ≡ placed c.args.group.alternative c.args.group.stacks c.in-Action.to ∷ [] =
    search rules in
    arm c.args.net.now c.args.set.now.graph c.args.set.now.graph c.args.group _ _ _ c.in-Action.is
    (one_moved c.args.set.now.graph c.args.group _ _ is)

pub returns-in_ok-push_each-in-Call-clause-means : goal.returns-in_ok-push_each-in-Call-clause-means
returns-in_ok-push_each-in-Call-clause-means c =
    let is : c.push_each-in-Call.new.found.items
    ≡ placed c.args.group.alternative c.in_ok-stacks-in-Call.stacks (2 * c.in-Call.rule) ∷ [] = search rules in
    arm c.args.net.now c.args.set.now.graph c.push.new.self.graph c.args.group _ _ _ c.in-Call.is
    (listed c.push.new.self.graph _ _ _ is (called c.args.set.now.graph c.push.new.self.graph c.args.group _ _ _
    c.in_ok-stacks-in-Call.ensures.means))
