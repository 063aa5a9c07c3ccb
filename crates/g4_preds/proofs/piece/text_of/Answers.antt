use Rattle.std.proofs.Common.{◌++◌, ap, sym, ◌∙◌, encode_utf8}
use Rattle.g4_preds.proofs.Names.{one_character}
use Rattle.g4_preds.proofs.piece.text_of.Goals as goal

pub loop-c-preserved : goal.loop-c-preserved
loop-c-preserved c =
    c.in_ok-push.ensures.bytes ∙ ap (λ bs. bs ++ encode_utf8 c.c-item.result) c.loop-c.invariant
    ∙ sym (one_character c.args.characters.now c.loop-c.c-index c.c-item.result c.loop-c-test.true c.c-item.is)
