use Rattle.std.proofs.Common.{refl}
use Rattle.g4_configs.proofs.Keeping.{kept_members, kept_nodes}
use Rattle.g4_configs.proofs.configs.Configs.keep.Goals as goal

pub invariant_of-self : goal.invariant_of-self
invariant_of-self c = kept_nodes c.args.net.now c.self.inside.graph c.self.inside.nodes.entries c.keep_states.new.nodes.entries
    c.keep_states.ensures c.self.invariant

pub returns-clause-members : goal.returns-clause-members
returns-clause-members c = kept_members c.args.net.now c.self.inside.graph c.self.inside.nodes.entries c.args.self.now _
    c.keep_states.new.nodes.entries c.keep_states.ensures c.self.view_is refl
