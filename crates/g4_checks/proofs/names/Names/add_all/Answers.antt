use Rattle.std.proofs.Common.{ℕ, List, subst}
use Rattle.std.proofs.lemmas.List.{take_all}
use Rattle.g4_checks.specs.Known.{AddsAll}
use Rattle.g4_checks.proofs.Known.{adds_none, adds_one}
use Rattle.g4_checks.proofs.names.Names.add_all.Goals as goal

pub loop-name-init : goal.loop-name-init
loop-name-init c = adds_none c.args.self.now

pub loop-name-preserved : goal.loop-name-preserved
loop-name-preserved c =
    adds_one c.args.self.now c.args.more.now c.loop-name.name-index c.name-item.result c.as_str.result.now c.loop-name.self
    c.add.new.self c.loop-name-test.true c.name-item.is c.as_str.ensures c.loop-name.invariant c.in_ok-add.ensures.added

pub returns : goal.returns
returns c =
    subst (λ (names : List (List ℕ)). AddsAll c.args.self.now names c.loop-name.self)
    (take_all c.loop-name.name-index c.args.more.now c.loop-name-test.false) c.loop-name.invariant
