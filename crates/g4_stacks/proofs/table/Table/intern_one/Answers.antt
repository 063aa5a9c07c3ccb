use Rattle.std.proofs.Common.{rules, ◌≡◌, ◌++◌, ◌∷◌, [], Some, None, length, slice_get, refl}
use Rattle.g4_stacks.specs.Table.{number_at, one_of}
use Rattle.g4_stacks.proofs.Growing.{interned_at}
use Rattle.g4_stacks.proofs.Indexing.{held_at, added_to, one_more, absent_one}
use Rattle.g4_stacks.proofs.table.Table.intern_one.Goals as goal

pub returns-in-Some-clause-holds : goal.returns-in-Some-clause-holds
returns-in-Some-clause-holds c =
    let found : number_at c.self.inside.ones.entries (c.args.state, c.args.node) ≡ Some c.in-Some.n = search rules in
    let at : slice_get c.self.inside.nodes.items c.in-Some.n ≡ Some (one_of c.args.state c.args.node) =
    (c.self.invariant.has_ones c.args.state c.args.node c.in-Some.n).0 found in
    held_at _ _ _ _ _ c.self.view_is refl at

pub invariant_of-self-2 : goal.invariant_of-self-2
invariant_of-self-2 c =
    let none : number_at c.self.inside.ones.entries (c.args.state, c.args.node) ≡ None = search rules in
    let grown : c.push_reserved.new.self.items ≡ c.self.inside.nodes.items ++ one_of c.args.state c.args.node ∷ [] = search rules in
    let l : c.len-n.result ≡ length c.self.inside.nodes.items = search rules in
    one_more c.self.inside.nodes.items c.push_reserved.new.self.items c.self.inside.ones.entries c.insert.new.self.entries
    c.self.inside.index c.args.state c.args.node c.len-n.result c.self.invariant l none c.in_ok-insert.ensures.updates.0 grown
    (search rules)

pub returns-clause-added : goal.returns-clause-added
returns-clause-added c =
    let none : number_at c.self.inside.ones.entries (c.args.state, c.args.node) ≡ None = search rules in
    let grown : c.push_reserved.new.self.items ≡ c.self.inside.nodes.items ++ one_of c.args.state c.args.node ∷ [] = search rules in
    added_to _ _ _ _ _ c.self.view_is refl (absent_one c.self.inside.nodes.items c.self.inside.ones.entries c.args.state c.args.node
    c.self.invariant.has_ones none) grown

pub returns-clause-holds : goal.returns-clause-holds
returns-clause-holds c =
    let grown : c.push_reserved.new.self.items ≡ c.self.inside.nodes.items ++ one_of c.args.state c.args.node ∷ [] = search rules in
    let l : c.len-n.result ≡ length c.self.inside.nodes.items = search rules in
    interned_at c.self.inside.nodes.items _ (one_of c.args.state c.args.node) _ l grown
