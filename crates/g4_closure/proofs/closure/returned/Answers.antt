use Rattle.std.proofs.Common.{rules, ◌≡◌, sym, ◌∙◌, ◌++◌, map, slice_get, true≢false, IsTrue, false}
use Rattle.g4_closure.specs.Steps.{placed, popped_to, listed_by}
use Rattle.g4_closure.proofs.Joining.{known_append}
use Rattle.g4_closure.proofs.Stepping.{popped_known, placed_known, ended_plain, ended_wild, listed, known_listed}
use Rattle.g4_closure.proofs.closure.returned.Goals as goal

pub returns-in_ok-push_each-clause-known : goal.returns-in_ok-push_each-clause-known
returns-in_ok-push_each-clause-known c =
    let is : c.push_each.new.found.items ≡ map (popped_to c.args.group.alternative) c.tops.result.now
    ++ map (placed c.args.group.alternative c.wild.result) (listed_by (slice_get c.args.net.now.callers c.args.rule)) = search rules in
    known_listed c.args.set.now.graph _ _ is (known_append c.args.set.now.graph _ _
    (popped_known c.args.set.now.graph c.args.group.alternative c.tops.result.now c.tops.ensures.known)
    (placed_known c.args.set.now.graph c.args.group.alternative c.wild.result _ c.wild.ensures.known))

pub returns-in_ok-push_each-clause-means : goal.returns-in_ok-push_each-clause-means
returns-in_ok-push_each-clause-means c =
    let is : c.push_each.new.found.items ≡ map (popped_to c.args.group.alternative) c.tops.result.now
    ++ map (placed c.args.group.alternative c.wild.result) (listed_by (slice_get c.args.net.now.callers c.args.rule)) = search rules in
    let has : IsTrue c.has_wild.result = search rules in
    listed c.args.set.now.graph _ _ _ is (ended_wild c.args.net.now c.requires.well_formed c.args.rule c.args.set.now.graph
    c.args.group c.tops.result.now c.tops.ensures c.wild.result c.wild.ensures.means (c.has_wild.ensures.0 has))

pub returns-else-has_wild-clause-known : goal.returns-else-has_wild-clause-known
returns-else-has_wild-clause-known c =
    let is : c.push_popped.new.found.items ≡ map (popped_to c.args.group.alternative) c.tops.result.now = search rules in
    known_listed c.args.set.now.graph _ _ is (popped_known c.args.set.now.graph c.args.group.alternative c.tops.result.now
    c.tops.ensures.known)

pub returns-else-has_wild-clause-means : goal.returns-else-has_wild-clause-means
returns-else-has_wild-clause-means c =
    let is : c.push_popped.new.found.items ≡ map (popped_to c.args.group.alternative) c.tops.result.now = search rules in
    let lacks : c.has_wild.result ≡ false = search rules in
    listed c.args.set.now.graph _ _ _ is (ended_plain c.args.net.now c.requires.well_formed c.args.rule c.args.set.now.graph
    c.args.group c.tops.result.now c.tops.ensures (λ h. true≢false (sym (c.has_wild.ensures.1 h) ∙ lacks)))
