use Rattle.std.proofs.Common.{subst}
use Rattle.g4_stacks.specs.Graph.{Keeps}
use Rattle.g4_configs.specs.Configs.{View}
use Rattle.g4_configs.proofs.Adding.{grown_holds}
use Rattle.g4_configs.proofs.configs.Configs.bottom.Goals as goal

pub returns-in_err-stacks-clause-keeps : goal.returns-in_err-stacks-clause-keeps
returns-in_err-stacks-clause-keeps c = subst (λ (v : View). Keeps v.graph c.bottom.new.graph) c.self.view_is c.in_err-stacks.ensures.keeps

pub returns-in_err-stacks-clause-same : goal.returns-in_err-stacks-clause-same
returns-in_err-stacks-clause-same c = grown_holds c.self.inside.graph c.bottom.new.graph c.self.inside.nodes.entries c.args.self.now
    c.self.view_is c.self.invariant c.in_err-stacks.ensures.keeps

pub returns-clause-keeps : goal.returns-clause-keeps
returns-clause-keeps c = subst (λ (v : View). Keeps v.graph c.bottom.new.graph) c.self.view_is c.in_ok-stacks.ensures.keeps

pub returns-clause-same : goal.returns-clause-same
returns-clause-same c = grown_holds c.self.inside.graph c.bottom.new.graph c.self.inside.nodes.entries c.args.self.now c.self.view_is
    c.self.invariant c.in_ok-stacks.ensures.keeps
