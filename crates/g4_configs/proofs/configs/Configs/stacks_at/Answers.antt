use Rattle.std.proofs.Common.{◌∙◌}
use Rattle.g4_configs.proofs.Meaning.{node_all, node_held, node_known, node_none}
use Rattle.g4_configs.proofs.configs.Configs.stacks_at.Goals as goal

pub returns-clause-known : goal.returns-clause-known
returns-clause-known c = node_known c.self.inside.graph c.self.inside.nodes.entries c.self.invariant c.args.self.now c.self.view_is
    c.args.state c.args.alternative _ (c.copied.ensures ∙ c.get.ensures.value)

pub returns-clause-held : goal.returns-clause-held
returns-clause-held c = node_held c.self.inside.graph c.self.inside.nodes.entries c.args.self.now c.self.view_is c.args.state
    c.args.alternative _ (c.copied.ensures ∙ c.get.ensures.value)

pub returns-clause-all : goal.returns-clause-all
returns-clause-all c = node_all c.self.inside.graph c.self.inside.nodes.entries c.args.self.now c.self.view_is c.args.state
    c.args.alternative _ (c.copied.ensures ∙ c.get.ensures.value)

pub returns-clause-none : goal.returns-clause-none
returns-clause-none c = node_none c.self.inside.graph c.self.inside.nodes.entries c.args.self.now c.self.view_is c.args.state
    c.args.alternative _ (c.copied.ensures ∙ c.get.ensures.value)
