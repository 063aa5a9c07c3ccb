use Rattle.std.proofs.Common.{◌↔◌, ℕ, Bool, IsTrue, Contains, sym, subst}
use Rattle.std.specs.List.Sorted.{IsNonDecreasingBy}
use Rattle.std.proofs.lemmas.List.Sorted.{searched, IsNonDecreasingBy-from_sort}
use Rattle.g4_net_check.proofs.Lists.{search_answer}
use Rattle.g4_net_check.proofs.members.is_among.Goals as goal

pub returns : goal.returns
returns c =
    let xs = c.args.sorted.now in
    let x = c.args.number in
    let up : IsNonDecreasingBy (λ (y : ℕ). y) xs = IsNonDecreasingBy-from_sort (λ (y : ℕ). y) xs c.requires in
    let found = searched xs x c.binary_search.result c.binary_search.ensures.position (λ i j no_more within. up i j 0 no_more within) in
    subst (λ (b : Bool). IsTrue b ↔ Contains xs x) (sym c.is_ok.ensures.value) (search_answer xs x c.binary_search.result found)
