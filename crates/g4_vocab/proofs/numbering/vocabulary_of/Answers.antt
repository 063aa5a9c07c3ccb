use Rattle.std.proofs.Common.{ℕ, List, not, ap, ◌∙◌}
use Rattle.std.specs.BTreeSet.{contains}
use Rattle.std.specs.List.{list_any}
use Rattle.std.specs.Ordering.{is_eq, nat_cmp}
use Rattle.g4_vocab.specs.Types.{all_types}
use Rattle.g4_vocab.proofs.LeftTypes.{filter_all}
use Rattle.g4_vocab.proofs.numbering.vocabulary_of.Goals as goal

pub invariant_of-result-clause-all_are : goal.invariant_of-result-clause-all_are
invariant_of-result-clause-all_are c =
    c.in_ok-all.ensures
    ∙ filter_all (λ n. not (contains nat_cmp c.new.result n))
    (λ n. ap not (ap (λ (keys : List ℕ). list_any (λ k. is_eq (nat_cmp n k)) keys) c.new.ensures.empty)) (all_types c.args.types)
