use Rattle.std.proofs.Common.{rules, ◌≡◌, not}
use Rattle.std.specs.Option.{is_some}
use Rattle.g4_names.specs.Places.{place_in}
use Rattle.g4_merge.proofs.Known.{known_next}
use Rattle.g4_merge.proofs.names.new_names.Goals as goal

pub loop-rule-preserved : goal.loop-rule-preserved
loop-rule-preserved c =
    let flag : is_some (place_in c.loop-rule.places c.name-name.result.now) ≡ not c.is_none.result = search rules in
    known_next c.args.rules.now c.loop-rule.rule-index c.rule-item.result c.name-name.result.now c.loop-rule-test.true c.rule-item.is
    c.name-name.ensures c.loop-rule.places c.add.new.self c.loop-rule.new.items c.push.new.self.items c.is_none.result flag
    c.in_ok-push.ensures.items c.in_ok-add.ensures.added c.loop-rule.invariant
