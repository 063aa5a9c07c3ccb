use Rattle.std.proofs.Common.{◌∙◌, ap, encode_utf8_all}
use Rattle.std.proofs.lemmas.List.{take_rest}
use Rattle.g4_preds.proofs.Pieces.{too_short, literal_at}
use Rattle.g4_preds.proofs.piece.literal_piece.Goals as goal

pub returns-then-more-lt2-clause-value : goal.returns-then-more-lt2-clause-value
returns-then-more-lt2-clause-value c = λ p is.
    too_short c.args.text.now _ c.in-Some.more p (take_rest c.args.text.now 1) c.in-Some.ensures.end c.if-more-lt2.true is

pub returns-clause-value : goal.returns-clause-value
returns-clause-value c = literal_at c.args.text.now _ c.in_ok-meant.meant c.in-Some.more c.in-len1-up.len_at_least
    (take_rest c.args.text.now 1) c.in-Some.ensures.end c.if-more-lt2.false
    (c.in_ok-meant.ensures ∙ ap encode_utf8_all (c.as_slice.ensures ∙ c.in_ok-characters.ensures))
