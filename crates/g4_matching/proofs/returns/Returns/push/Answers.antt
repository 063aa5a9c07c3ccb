use Rattle.std.proofs.Common.{rules, ◌≡◌, ◌+◌, ◌++◌, ◌∷◌, [], Some, None, ap}
use Rattle.std.specs.BTreeMap.{get, is_at}
use Rattle.std.specs.Map.{lookup}
use Rattle.g4_matching.specs.Returns.{node_cmp}
use Rattle.g4_matching.proofs.Stores.{number_low, list_at, grown_more, new_list}
use Rattle.g4_matching.proofs.Numbering.{one_node_more, unchanged}
use Rattle.g4_matching.proofs.returns.Returns.push.Goals as goal

pub returns-in-Some-clause-holds : goal.returns-in-Some-clause-holds
returns-in-Some-clause-holds c =
    let found : get node_cmp c.self.inside.numbers (c.args.state, c.args.below) ≡ Some c.in-Some.n = search rules in
    let at = (c.self.invariant.numbered (c.args.state, c.args.below) c.in-Some.n).0 found in
    list_at _ _ _ _ _ _ c.self.view_is c.self.invariant at.1 at.2

pub invariant_of-self-in_err-insert : goal.invariant_of-self-in_err-insert
invariant_of-self-in_err-insert c = unchanged c.self.inside.nodes.items _ c.self.inside.numbers _ c.in_ok-reserve.ensures.items
    (λ q. ap (lookup (is_at (node_cmp q))) c.in_err-insert.ensures.err) c.self.invariant

pub invariant_of-self-2 : goal.invariant_of-self-2
invariant_of-self-2 c =
    let none : get node_cmp c.self.inside.numbers (c.args.state, c.args.below) ≡ None = search rules in
    let grown : c.push_reserved.new.self.items ≡ c.self.inside.nodes.items ++ (c.args.state, c.args.below) ∷ [] = search rules in
    one_node_more c.self.inside.nodes.items c.push_reserved.new.self.items c.self.inside.numbers c.insert.new.self
    (c.args.state, c.args.below) (c.len-n.result + 1) (search rules) (number_low _ _ _ c.self.view_is c.requires) (search rules)
    c.self.invariant none c.in_ok-insert.ensures.updates.0 grown

pub returns-clause-grows : goal.returns-clause-grows
returns-clause-grows c =
    let grown : c.push_reserved.new.self.items ≡ c.self.inside.nodes.items ++ (c.args.state, c.args.below) ∷ [] = search rules in
    grown_more _ _ _ _ _ c.self.view_is grown

pub returns-clause-holds : goal.returns-clause-holds
returns-clause-holds c =
    let grown : c.push_reserved.new.self.items ≡ c.self.inside.nodes.items ++ (c.args.state, c.args.below) ∷ [] = search rules in
    new_list _ _ _ _ _ _ c.self.view_is (search rules) grown
