use Rattle.std.proofs.Common.{subst}
use Rattle.g4_stacks.specs.Graph.{Keeps}
use Rattle.g4_configs.specs.Configs.{View}
use Rattle.g4_configs.proofs.Adding.{grown_holds}
use Rattle.g4_configs.proofs.configs.Configs.push.Goals as goal

pub returns-in_err-result-clause-keeps : goal.returns-in_err-result-clause-keeps
returns-in_err-result-clause-keeps c = subst (λ (v : View). Keeps v.graph c.push.new.self) c.self.view_is c.in_err-result.ensures.keeps

pub returns-in_err-result-clause-same : goal.returns-in_err-result-clause-same
returns-in_err-result-clause-same c = grown_holds c.self.inside.graph c.push.new.self c.self.inside.nodes.entries c.args.self.now
    c.self.view_is c.self.invariant c.in_err-result.ensures.keeps

pub returns-clause-keeps : goal.returns-clause-keeps
returns-clause-keeps c = subst (λ (v : View). Keeps v.graph c.push.new.self) c.self.view_is c.in_ok-result.ensures.keeps

pub returns-clause-same : goal.returns-clause-same
returns-clause-same c = grown_holds c.self.inside.graph c.push.new.self c.self.inside.nodes.entries c.args.self.now c.self.view_is
    c.self.invariant c.in_ok-result.ensures.keeps
