use Rattle.std.proofs.Common.{◌≡◌, ◌+◌, ℕ, List, length, set, true, false, true≢false, sym, ◌∙◌, subst, arith, rules}
use Rattle.g4_netlist.specs.Searching.{IsNew, Known}
use Rattle.g4_netlist.proofs.Marking.{marks_more, newly_marked, passed_over}
use Rattle.g4_netlist.proofs.search.Search.reach.Goals as goal

pub returns-in_ok-push-clause-under_way : goal.returns-in_ok-push-clause-under_way
returns-in_ok-push-clause-under_way c =
    let new : IsNew c.args.self.now.found.items c.args.state = search rules in
    λ net rule left known. subst (λ (ws : List ℕ). Known net rule left (set c.args.self.now.found.items c.args.state true) ws)
    (sym c.in_ok-push.ensures.items) (newly_marked net rule c.args.state left c.args.self.now.found.items
    c.args.self.now.waiting.items new known)

pub returns-in_ok-push-clause-work : goal.returns-in_ok-push-clause-work
returns-in_ok-push-clause-work c =
    let new : IsNew c.args.self.now.found.items c.args.state = search rules in
    let fewer = marks_more c.args.self.now.found.items c.args.state new in
    let longer : length c.push.new.self.items ≡ length c.args.self.now.waiting.items + 1 = search rules in omega (arith, fewer, longer)

pub returns-else-is_new-clause-under_way : goal.returns-else-is_new-clause-under_way
returns-else-is_new-clause-under_way c =
    let no : c.is_new.result ≡ false = search rules in
    λ net rule left known. passed_over net rule c.args.state left c.args.self.now.found.items c.args.self.now.waiting.items
    (λ new. true≢false (sym (c.is_new.ensures.1 new) ∙ no)) known
