use Rattle.std.proofs.Common.{◌≡◌, ◌∷◌, take, string_bytes, encode_utf8_all}
use Rattle.g4_preds.proofs.piece.name_text.Given as goal

abbrev pub invariant-loop-part : goal.invariant-loop-part
invariant-loop-part l = string_bytes l.name ≡ encode_utf8_all (l.fn.letter ∷ take l.part-index l.parts)
