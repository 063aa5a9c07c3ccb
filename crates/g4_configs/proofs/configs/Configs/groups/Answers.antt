use Rattle.g4_configs.proofs.Listing.{groups_listed}
use Rattle.g4_configs.proofs.configs.Configs.groups.Goals as goal

pub returns : goal.returns
returns c = groups_listed c.self.inside.graph c.self.inside.nodes.entries c.self.invariant c.in_ok-found.ensures.unique c.args.self.now _
    c.self.view_is c.in_ok-found.ensures.listed
