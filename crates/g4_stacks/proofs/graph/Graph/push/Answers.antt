use Rattle.std.proofs.Common.{rules, subst}
use Rattle.std.proofs.lemmas.Option.{slice_get_within}
use Rattle.g4_stacks.specs.Graph.{Keeps}
use Rattle.g4_stacks.specs.Canonical.{IsCanonical}
use Rattle.g4_stacks.proofs.Growing.{keeps}
use Rattle.g4_stacks.proofs.Pushing.{pushes, pushes_none, plain_one}
use Rattle.g4_stacks.proofs.graph.Graph.push.Goals as goal

pub returns-then-node-eq0-clause-means : goal.returns-then-node-eq0-clause-means
returns-then-node-eq0-clause-means c = pushes_none c.args.self.now (subst IsCanonical c.self.view_is c.self.invariant.canonical)
    c.args.state c.args.node c.if-node-eq0.true

pub returns-in_err-result-clause-keeps : goal.returns-in_err-result-clause-keeps
returns-in_err-result-clause-keeps c = keeps c.args.self.now c.intern_one.new.self
    (subst IsCanonical c.self.view_is c.self.invariant.canonical) c.intern_one.ensures.grows

pub returns-clause-keeps : goal.returns-clause-keeps
returns-clause-keeps c = keeps c.args.self.now c.intern_one.new.self (subst IsCanonical c.self.view_is c.self.invariant.canonical)
    c.intern_one.ensures.grows

pub returns-clause-known : goal.returns-clause-known
returns-clause-known c = slice_get_within c.intern_one.new.self c.in_ok-result.result _ c.in_ok-result.ensures.holds

pub returns-clause-means : goal.returns-clause-means
returns-clause-means c =
    let kept : Keeps c.args.self.now c.intern_one.new.self =
    keeps c.args.self.now c.intern_one.new.self (subst IsCanonical c.self.view_is c.self.invariant.canonical)
    c.intern_one.ensures.grows in
    pushes c.args.self.now c.intern_one.new.self c.in_ok-result.result c.args.state c.args.node c.requires kept c.in_ok-result.ensures.holds

pub intern_one-requires : goal.intern_one-requires
intern_one-requires c = plain_one _ c.args.state c.args.node (search rules) c.requires
