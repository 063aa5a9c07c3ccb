use Rattle.std.proofs.Common.{◌||◌, ◌==◌, ℕ, List, ap, ◌∙◌}
use Rattle.std.specs.BTreeSet.{contains}
use Rattle.std.specs.List.{list_any, range_with_len}
use Rattle.std.specs.Ordering.{nat_cmp}
use Rattle.std.proofs.lemmas.List.{take_all}
use Rattle.g4_tokens.specs.Members.{left_over}
use Rattle.g4_vocab.proofs.LeftTypes.{left_more, left_none, types_left}
use Rattle.g4_vocab.proofs.kinds.types_without.Goals as goal

pub loop-gap-init : goal.loop-gap-init
loop-gap-init c = left_none c.args.symbols

pub loop-gap-preserved : goal.loop-gap-preserved
loop-gap-preserved c =
    left_more c.args.symbols c.loop-gap.left_out c.insert.new.self c.args.gaps.now c.loop-gap.gap-index c.loop-gap-test.true
    c.in_ok-insert.ensures.updates c.loop-gap.invariant

pub returns : goal.returns
returns c =
    let symbols = c.args.symbols in
    let out = c.loop-gap.left_out in
    let gaps = take_all c.loop-gap.gap-index c.args.gaps.now c.loop-gap-test.false ∙ c.requires in
    c.in_ok-set.ensures
    ∙ (ap (λ (n : ℕ). left_over out (range_with_len 1 n)) c.greatest-greatest.ensures.value
    ∙ types_left c.args.types.now symbols out
    (λ n. c.loop-gap.invariant n ∙ ap (λ (gs : List ℕ). contains nat_cmp symbols n || list_any (λ m. m == n) gs) gaps))
