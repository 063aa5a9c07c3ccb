use Rattle.std.proofs.Common.{◌≡◌, ℕ, ◌+◌, ◌-◌, ◌++◌, ◌∷◌, [], List, map, sym, ap, ◌∙◌, arith}
use Rattle.std.specs.List.{range_with_len}
use Rattle.std.specs.Option.{option_copied}
use Rattle.std.proofs.lemmas.List.FromFn.{map-range_with_len_more}
use Rattle.g4_vocab.specs.Tables.{shown_at, text_or}
use Rattle.g4_vocab.proofs.faces.shown_up_to.Goals as goal
use Rattle.g4_vocab.proofs.faces.shown_up_to.Goals.{in-Some, in-None}

pub loop-number-preserved : goal.loop-number-preserved
loop-number-preserved c =
    let first = c.args.first.now in
    let n = c.loop-number.number-counter in
    let some = c.loop-number.auto.number-counter in
    let found = c.get.ensures.value in
    let text : c.match-get.text.now ≡ shown_at first n = elim c.match-get.branch [
      | in-Some w ↦ rw w.text-is (sym (ap text_or (sym found ∙ ap option_copied w.in-Some.is)))
      | in-None w ↦ rw w.text-is (sym (ap text_or (sym found ∙ ap option_copied w.in-None.is)))
    ] in
    let before : List (List ℕ) = map (shown_at first) (range_with_len 1 (n - 1)) in
    let m : n + 1 - 1 ≡ n - 1 + 1 = omega (arith, some) in
    c.in_ok-push.ensures.items
    ∙ (ap (λ (ts : List (List ℕ)). ts ++ c.in_ok-copy_of.field-0 ∷ []) c.loop-number.invariant
    ∙ (ap (λ (t : List ℕ). before ++ t ∷ []) (c.in_ok-copy_of.ensures ∙ text)
    ∙ sym (ap (λ (k : ℕ). map (shown_at first) (range_with_len 1 k)) m
    ∙ map-range_with_len_more (shown_at first) 1 (n - 1) n (omega (arith, some)))))
