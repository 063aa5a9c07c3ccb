use Rattle.std.proofs.Common.{rules, ◌≡◌, ◌++◌, ◌∷◌, [], Some, None, List, ℕ, length, slice_get, ap, ◌∙◌}
use Rattle.std.specs.BTreeMap.{get}
use Rattle.g4_matching.specs.Returns.{node_cmp}
use Rattle.g4_matching.proofs.Lookups.{at_last}
use Rattle.g4_matching.proofs.Numbers.{one_pair_more}
use Rattle.g4_matching.proofs.pairs.Pairs.number.Goals as goal

pub returns-in-Some-clause-holds : goal.returns-in-Some-clause-holds
returns-in-Some-clause-holds c =
    let found : get node_cmp c.args.self.now.numbers (c.args.left, c.args.right) ≡ Some c.in-Some.number = search rules in
    (c.requires (c.args.left, c.args.right) c.in-Some.number).0 found

pub returns-clause-numbering : goal.returns-clause-numbering
returns-clause-numbering c =
    let a = c.args.self.now in
    let none : get node_cmp a.numbers (c.args.left, c.args.right) ≡ None = search rules in
    one_pair_more a.pairs.items c.push.new.self.items a.numbers c.insert.new.self (c.args.left, c.args.right) c.len-number.result
    (c.len-number.ensures ∙ a.pairs.ok.0) c.requires none c.in_ok-insert.ensures.updates.0 c.in_ok-push.ensures.items

pub returns-clause-holds : goal.returns-clause-holds
returns-clause-holds c =
    let a = c.args.self.now in
    let p : ℕ × ℕ = (c.args.left, c.args.right) in
    let number : c.len-number.result ≡ length a.pairs.items = c.len-number.ensures ∙ a.pairs.ok.0 in
    ap (λ (l : List (ℕ × ℕ)). slice_get l c.len-number.result) c.in_ok-push.ensures.items
    ∙ ap (slice_get (a.pairs.items ++ p ∷ [])) number ∙ at_last a.pairs.items p
