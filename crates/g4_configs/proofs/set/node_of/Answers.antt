use Rattle.std.proofs.Common.{◌∙◌, sym}
use Rattle.g4_configs.proofs.Adding.{none_means}
use Rattle.g4_configs.proofs.set.node_of.Goals as goal

pub returns-in-Some-clause-known : goal.returns-in-Some-clause-known
returns-in-Some-clause-known c = (c.requires (c.args.state, c.args.alternative) c.in-Some.node
    (sym (c.copied.ensures ∙ c.get.ensures.value) ∙ c.in-Some.is)).0

pub returns-in-None-clause-means : goal.returns-in-None-clause-means
returns-in-None-clause-means c = none_means c.args.graph.now _ _ (sym (c.copied.ensures ∙ c.get.ensures.value) ∙ c.in-None.is)
    c.empty.ensures.means
