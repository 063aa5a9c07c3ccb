use Rattle.std.proofs.Common.{◌≡◌, ◌+◌, length, take}
use Rattle.std.specs.Str.{encode_utf8_all}
use Rattle.g4_lexer.proofs.position.Position.after.Given as goal

abbrev pub invariant-loop-character : goal.invariant-loop-character
invariant-loop-character l = l.offset ≡ l.self.offset + length (encode_utf8_all (take l.character-index l.characters))
