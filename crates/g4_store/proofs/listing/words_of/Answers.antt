use Rattle.std.proofs.Common.{[], ◌∷◌, ◌++◌, sym, ap, ◌∙◌, arith}
use Rattle.g4_store.proofs.Lists.{take_snoc}
use Rattle.g4_store.proofs.listing.words_of.Goals as goal

pub loop-i-preserved : goal.loop-i-preserved
loop-i-preserved c =
    let i = c.loop-i.invariant in
    let p = c.push_word.ensures in (
      p.0 ∙ ap (λ l. l ++ c.word.result ∷ []) i.0 ∙ sym (take_snoc _ _ _ c.word.ensures),
      (let a = p.2 in let b = i.1 in omega arith),
      (let a = p.1 in let b = i.2 in omega arith),
    )
