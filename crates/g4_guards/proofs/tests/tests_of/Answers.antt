use Rattle.std.proofs.Common.{rules}
use Rattle.g4_guards.proofs.Testing.{none_begins, some_begins}
use Rattle.g4_guards.proofs.tests.tests_of.Goals as goal

pub returns-then-not-has_predicate : goal.returns-then-not-has_predicate
returns-then-not-has_predicate c =
    none_begins c.args.net.now c.args.decision c.firsts-targets.result.now c.firsts-targets.ensures c.requires (search rules)

pub returns-then-count_tests-le-MOST_TESTED : goal.returns-then-count_tests-le-MOST_TESTED
returns-then-count_tests-le-MOST_TESTED c =
    let some = some_begins c.args.net.now c.args.decision c.firsts-targets.result.now c.firsts-targets.ensures (search rules) in
    (some.1, (c.firsts-targets.result.now, (some.0, search rules)))

pub returns-else-count_tests-le-MOST_TESTED : goal.returns-else-count_tests-le-MOST_TESTED
returns-else-count_tests-le-MOST_TESTED c =
    let some = some_begins c.args.net.now c.args.decision c.firsts-targets.result.now c.firsts-targets.ensures (search rules) in
    (some.1, (c.firsts-targets.result.now, (some.0, search rules)))
