use Rattle.std.proofs.Common.{◌++◌, ap, sym, ◌∙◌, encode_utf8}
use Rattle.g4_preds.proofs.Names.{one_more}
use Rattle.g4_preds.proofs.piece.name_text.Goals as goal

pub loop-part-preserved : goal.loop-part-preserved
loop-part-preserved c =
    c.in_ok-push-2.ensures.bytes ∙ ap (λ bs. bs ++ encode_utf8 c.part-item.result) c.loop-part.invariant
    ∙ sym (one_more c.args.letter c.args.parts.now c.loop-part.part-index c.part-item.result c.loop-part-test.true c.part-item.is)
