use Rattle.std.proofs.Common.{rules, ◌≡◌, refl, sym, subst, true≢false, ◌∙◌}
use Rattle.g4_configs.specs.Groups.{Entries, Same, Within}
use Rattle.g4_configs.proofs.Adding.{both_filled, had, had_members, new_members, new_nodes, no_more, nodes_kept, on_err, turned, within_kept}
use Rattle.g4_configs.proofs.set.add.Goals as goal

pub returns-in_err-both-clause-nodes : goal.returns-in_err-both-clause-nodes
returns-in_err-both-clause-nodes c = nodes_kept _ _ c.args.nodes.now.entries c.merge.ensures.keeps c.requires.nodes

pub returns-in_err-both-clause-unchanged : goal.returns-in_err-both-clause-unchanged
returns-in_err-both-clause-unchanged c =
    on_err c.from_residual.result (turned (within_kept c.args.graph.now c.merge.new.self c.args.nodes.now.entries
    c.merge.ensures.keeps c.requires.nodes))

pub returns-in_err-insert-clause-unchanged : goal.returns-in_err-insert-clause-unchanged
returns-in_err-insert-clause-unchanged c =
    let same : c.insert.new.self.entries ≡ c.args.nodes.now.entries = search rules in
    on_err c.from_residual-in_err-insert.result
    (subst (λ (m : Entries). Same (Within c.merge.new.self m) (Within c.args.graph.now c.args.nodes.now.entries)) (sym same)
    (turned (within_kept c.args.graph.now c.merge.new.self c.args.nodes.now.entries c.in_ok-both.ensures.keeps c.requires.nodes)))

pub returns-then-same-clause-nodes : goal.returns-then-same-clause-nodes
returns-then-same-clause-nodes c = nodes_kept _ _ c.args.nodes.now.entries c.in_ok-both.ensures.keeps c.requires.nodes

pub returns-then-same-clause-members : goal.returns-then-same-clause-members
returns-then-same-clause-members c = had_members c.args.graph.now c.merge.new.self c.args.nodes.now.entries c.args.group
    c.node_of-before.result c.in_ok-both.both c.in_ok-both.ensures.keeps c.requires.nodes c.requires.node
    c.node_of-before.ensures.known c.node_of-before.ensures.means c.in_ok-both.ensures.means (c.same.ensures.0 c.if-same.true)

pub returns-then-same-clause-grew : goal.returns-then-same-clause-grew
returns-then-same-clause-grew c = (
  (λ e. had c.args.graph.now c.merge.new.self c.args.nodes.now.entries c.args.group
      c.node_of-before.result c.in_ok-both.both c.in_ok-both.ensures.keeps c.requires.nodes c.requires.node
      c.node_of-before.ensures.known c.node_of-before.ensures.means c.in_ok-both.ensures.means (c.same.ensures.0 c.if-same.true)),
  (λ sub. refl),
)

pub returns-clause-nodes : goal.returns-clause-nodes
returns-clause-nodes c = new_nodes c.args.graph.now c.merge.new.self c.args.nodes.now.entries c.args.group c.node_of-before.result
    c.in_ok-both.both c.in_ok-both.ensures.keeps c.requires.nodes c.requires.node c.node_of-before.ensures.known
    c.node_of-before.ensures.means c.in_ok-both.ensures.means c.insert.new.self.entries c.in_ok-both.ensures.known
    (both_filled c.args.graph.now c.merge.new.self c.args.nodes.now.entries c.args.group c.node_of-before.result c.in_ok-both.both
    c.in_ok-both.ensures.keeps c.requires.nodes c.requires.node c.node_of-before.ensures.known c.node_of-before.ensures.means
    c.in_ok-both.ensures.means c.is_canonical.ensures
    (λ eq. true≢false (sym (c.same.ensures.1 eq) ∙ c.if-same.false)))
    c.in_ok-insert.ensures.updates.0

pub returns-clause-members : goal.returns-clause-members
returns-clause-members c = new_members c.args.graph.now c.merge.new.self c.args.nodes.now.entries c.args.group c.node_of-before.result
    c.in_ok-both.both c.in_ok-both.ensures.keeps c.requires.nodes c.requires.node c.node_of-before.ensures.known
    c.node_of-before.ensures.means c.in_ok-both.ensures.means c.insert.new.self.entries c.in_ok-both.ensures.known
    (both_filled c.args.graph.now c.merge.new.self c.args.nodes.now.entries c.args.group c.node_of-before.result c.in_ok-both.both
    c.in_ok-both.ensures.keeps c.requires.nodes c.requires.node c.node_of-before.ensures.known c.node_of-before.ensures.means
    c.in_ok-both.ensures.means c.is_canonical.ensures
    (λ eq. true≢false (sym (c.same.ensures.1 eq) ∙ c.if-same.false)))
    c.in_ok-insert.ensures.updates.0

pub returns-clause-grew : goal.returns-clause-grew
returns-clause-grew c = (
  (λ e. absurd (true≢false e)),
  λ sub. absurd (true≢false (sym (c.same.ensures.1
      (no_more c.args.graph.now c.merge.new.self c.args.nodes.now.entries c.args.group c.node_of-before.result c.in_ok-both.both
      c.in_ok-both.ensures.keeps c.requires.nodes c.requires.node c.node_of-before.ensures.known c.node_of-before.ensures.means
      c.in_ok-both.ensures.means sub)) ∙ c.if-same.false)),
)
