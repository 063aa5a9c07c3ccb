use Rattle.std.proofs.Common.{rules, ◌≡◌, [], subst}
use Rattle.g4_stacks.specs.Graph.{Keeps}
use Rattle.g4_configs.specs.Configs.{View}
use Rattle.g4_configs.specs.Groups.{InSome, Same}
use Rattle.g4_configs.proofs.Adding.{grown_holds}
use Rattle.g4_configs.proofs.Merges.{merged_means, merged_parts}
use Rattle.g4_configs.proofs.configs.Configs.merged.Goals as goal

pub returns-in_err-add_each-clause-keeps : goal.returns-in_err-add_each-clause-keeps
returns-in_err-add_each-clause-keeps c = subst (λ (v : View). Keeps v.graph c.add_each.new.graph) c.self.view_is c.add_each.ensures.keeps

pub returns-in_err-add_each-clause-same : goal.returns-in_err-add_each-clause-same
returns-in_err-add_each-clause-same c = grown_holds c.self.inside.graph c.add_each.new.graph c.self.inside.nodes.entries
    c.args.self.now c.self.view_is c.self.invariant c.add_each.ensures.keeps

pub returns-in_err-found-clause-keeps : goal.returns-in_err-found-clause-keeps
returns-in_err-found-clause-keeps c = subst (λ (v : View). Keeps v.graph c.add_each.new.graph) c.self.view_is c.add_each.ensures.keeps

pub returns-in_err-found-clause-same : goal.returns-in_err-found-clause-same
returns-in_err-found-clause-same c = grown_holds c.self.inside.graph c.add_each.new.graph c.self.inside.nodes.entries c.args.self.now
    c.self.view_is c.self.invariant c.add_each.ensures.keeps

pub returns-clause-keeps : goal.returns-clause-keeps
returns-clause-keeps c = subst (λ (v : View). Keeps v.graph c.add_each.new.graph) c.self.view_is c.add_each.ensures.keeps

pub returns-clause-same : goal.returns-clause-same
returns-clause-same c = grown_holds c.self.inside.graph c.add_each.new.graph c.self.inside.nodes.entries c.args.self.now
    c.self.view_is c.self.invariant c.add_each.ensures.keeps

pub returns-clause-parts : goal.returns-clause-parts
returns-clause-parts c = merged_parts c.add_each.new.graph c.add_each.new.nodes.entries c.in_ok-found.found.items c.add_each.ensures.nodes
    c.in_ok-found.ensures.unique c.in_ok-found.ensures.listed

pub returns-clause-means : goal.returns-clause-means
returns-clause-means c =
    let none : c.new-nodes.result.entries ≡ [] = search rules in
    subst (λ (v : View). Same (InSome c.add_each.new.graph c.in_ok-found.found.items) (InSome v.graph c.args.groups.now)) c.self.view_is
    (merged_means c.self.inside.graph c.add_each.new.graph c.new-nodes.result.entries c.args.groups.now c.add_each.new.nodes.entries
    c.in_ok-found.found.items none c.add_each.ensures.nodes c.in_ok-found.ensures.unique c.in_ok-add_each.ensures.members
    c.in_ok-found.ensures.listed)
