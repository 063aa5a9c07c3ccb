use Rattle.std.proofs.Common.{arith}
use Rattle.g4_chars.proofs.Hexadecimal.{front_digits}
use Rattle.g4_chars.proofs.escape.braced_digits.Goals as goal

pub hexadecimal_value-requires-clause-all : goal.hexadecimal_value-requires-clause-all
hexadecimal_value-requires-clause-all c = front_digits c.hexadecimal_length-count.result c.args.text.now (omega arith)
