use Rattle.std.proofs.Common.{rules, ◌≡◌, ◌++◌, ◌∷◌, [], Some, None, length, slice_get, sym, ◌∙◌, ap, subst}
use Rattle.std.specs.BTreeMap.{get}
use Rattle.g4_stacks.specs.Graph.{Content}
use Rattle.g4_stacks.specs.Table.{Key, content_by, key_cmp, IsOne}
use Rattle.g4_stacks.proofs.Growing.{interned_at}
use Rattle.g4_stacks.proofs.Indexing.{held_at, added_to, other_more, absent_by}
use Rattle.g4_stacks.proofs.table.Table.intern_other.Goals as goal

pub returns-in-Some-clause-holds : goal.returns-in-Some-clause-holds
returns-in-Some-clause-holds c =
    let k : Key = (c.wanted.inside.end, c.wanted.inside.wild, c.wanted.inside.tops) in
    let several = subst (λ (d : Content). IsOne d → ⊥) (sym c.wanted.view_is) c.requires in
    let found : get key_cmp c.self.inside.index k ≡ Some c.in-Some.n = search rules in
    let at : slice_get c.self.inside.nodes.items c.in-Some.n ≡ Some (content_by k) =
    (c.self.invariant.indexed k c.in-Some.n several).0 found in
    held_at _ _ _ _ _ c.self.view_is c.wanted.view_is at

pub invariant_of-self-2 : goal.invariant_of-self-2
invariant_of-self-2 c =
    let k : Key = (c.wanted.inside.end, c.wanted.inside.wild, c.wanted.inside.tops) in
    let several = subst (λ (d : Content). IsOne d → ⊥) (sym c.wanted.view_is) c.requires in
    let none : get key_cmp c.self.inside.index k ≡ None = search rules in
    let same : c.in_ok-tops.tops.items ≡ c.as_slice.result.now = search rules in
    let grown : c.push_reserved.new.self.items ≡ c.self.inside.nodes.items ++ content_by k ∷ [] = search rules in
    let l : c.len-n.result ≡ length c.self.inside.nodes.items = search rules in
    other_more c.self.inside.nodes.items c.push_reserved.new.self.items c.self.inside.ones.entries c.self.inside.index c.insert.new.self k
    c.len-n.result c.self.invariant l several none c.in_ok-insert.ensures.updates.0 grown (search rules)

pub returns-clause-added : goal.returns-clause-added
returns-clause-added c =
    let k : Key = (c.wanted.inside.end, c.wanted.inside.wild, c.wanted.inside.tops) in
    let several = subst (λ (d : Content). IsOne d → ⊥) (sym c.wanted.view_is) c.requires in
    let none : get key_cmp c.self.inside.index k ≡ None = search rules in
    let same : c.in_ok-tops.tops.items ≡ c.as_slice.result.now = search rules in
    let grown : c.push_reserved.new.self.items ≡ c.self.inside.nodes.items ++ content_by k ∷ [] = search rules in
    added_to _ _ _ _ _ c.self.view_is c.wanted.view_is
    (absent_by c.self.inside.nodes.items c.self.inside.index k several c.self.invariant.indexed none) grown

pub returns-clause-holds : goal.returns-clause-holds
returns-clause-holds c =
    let k : Key = (c.wanted.inside.end, c.wanted.inside.wild, c.wanted.inside.tops) in
    let same : c.in_ok-tops.tops.items ≡ c.as_slice.result.now = search rules in
    let grown : c.push_reserved.new.self.items ≡ c.self.inside.nodes.items ++ content_by k ∷ [] = search rules in
    let l : c.len-n.result ≡ length c.self.inside.nodes.items = search rules in
    interned_at c.self.inside.nodes.items _ (content_by k) _ l grown ∙ ap Some c.wanted.view_is
