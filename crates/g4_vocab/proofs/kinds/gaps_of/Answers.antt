use Rattle.std.proofs.Common.{◌≡◌, ◌++◌, ◌-◌, ◌∷◌, [], ℕ, List, true, false, filter, not, sym, ap, ◌∙◌}
use Rattle.std.specs.BTreeSet.{contains}
use Rattle.std.specs.List.{range_with_len}
use Rattle.std.specs.Ordering.{nat_cmp}
use Rattle.std.proofs.lemmas.List.{append-nil}
use Rattle.g4_token_file.specs.declared.entry.TokenEntry.{TokenEntry}
use Rattle.g4_vocab.specs.Types.{is_type}
use Rattle.g4_vocab.proofs.LeftTypes.{fails_more}
use Rattle.g4_vocab.proofs.kinds.gaps_of.Goals as goal
use Rattle.g4_vocab.proofs.kinds.gaps_of.Goals.{then-not-contains+in_ok-push, else-not-contains}

pub loop-number-preserved : goal.loop-number-preserved
loop-number-preserved c =
    let types = c.args.types.now in
    let n = c.loop-number.number-counter in
    let some = c.loop-number.auto.number-counter in
    let is : contains nat_cmp c.in_ok-numbers.numbers n ≡ is_type types n =
    c.in_ok-numbers.ensures n ∙ ap (λ (es : List TokenEntry). is_type es n) c.entries.ensures in
    elim c.if-not-contains.branch [
      | then-not-contains+in_ok-push w ↦ rw w.gaps-is
          (w.in_ok-push.ensures.items ∙ (ap (λ (ns : List ℕ). ns ++ n ∷ []) c.loop-number.invariant
          ∙ fails_more (is_type types) n false some (sym is ∙ (sym c.contains.ensures ∙ w.if-not-contains.true))))
      | else-not-contains w ↦ rw w.gaps-is
          (c.loop-number.invariant ∙ (sym (append-nil (filter (λ k. not (is_type types k)) (range_with_len 1 (n - 1))))
          ∙ fails_more (is_type types) n true some (sym is ∙ (sym c.contains.ensures ∙ w.if-not-contains.false))))
    ]
