use Rattle.std.proofs.Common.{ℕ, List, get_or, length, ap, ◌∙◌}
use Rattle.std.proofs.lemmas.List.{length-replicate}
use Rattle.g4_store.specs.Words.{size_of}
use Rattle.g4_store.proofs.Lists.{all_zero}
use Rattle.g4_store.proofs.Moves.{begins}
use Rattle.g4_store.proofs.store.empty_words.Goals as goal

pub of_words-requires : goal.of_words-requires
of_words-requires g c =
    let is = c.as_slice.ensures.value ∙ c.in_ok-words.ensures.items_if_clones_equal (λ y e. e) in
    begins g.A.Automaton.starts g.A.Automaton.leads c.args.plan.now _ (ap length is ∙ length-replicate _ _) c.requires.1
    (λ i. ap (λ (l : List ℕ). get_or l i 0) is ∙ all_zero (size_of c.args.plan.now) i)
