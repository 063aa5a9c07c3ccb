use Rattle.std.proofs.Common.{◌+◌, arith}
use Rattle.g4_lexer.proofs.Encoded.{length-encoded-le, length-encoded-more, length-encoded-front}
use Rattle.g4_lexer.proofs.position.Position.after.Goals as goal

pub overflow_add-offset : goal.overflow_add-offset
overflow_add-offset c =
    let more = length-encoded-more c.args.characters.now c.loop-character.character-index c.character-item.result (omega arith)
    c.character-item.is in
    let front = length-encoded-front c.args.characters.now (c.loop-character.character-index + 1) in
    omega (
      arith,
      more,
      front,
      length-encoded-le c.args.characters.now,
      c.loop-character.invariant,
      c.len_utf8.ensures.len,
      c.requires.bytes,
    )

pub loop-character-preserved : goal.loop-character-preserved
loop-character-preserved c =
    let more = length-encoded-more c.args.characters.now c.loop-character.character-index c.character-item.result (omega arith)
    c.character-item.is in
    omega (arith, more, c.loop-character.invariant, c.len_utf8.ensures.len)
