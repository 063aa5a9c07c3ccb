use Rattle.std.proofs.Common.{subst}
use Rattle.g4_stacks.specs.Graph.{Keeps}
use Rattle.g4_configs.specs.Configs.{View}
use Rattle.g4_configs.proofs.configs.Configs.add.Goals as goal

pub returns-in_err-grew-clause-keeps : goal.returns-in_err-grew-clause-keeps
returns-in_err-grew-clause-keeps c = subst (λ (v : View). Keeps v.graph c.add.new.graph) c.self.view_is c.in_err-grew.ensures.keeps

pub returns-clause-keeps : goal.returns-clause-keeps
returns-clause-keeps c = subst (λ (v : View). Keeps v.graph c.add.new.graph) c.self.view_is c.in_ok-grew.ensures.keeps
