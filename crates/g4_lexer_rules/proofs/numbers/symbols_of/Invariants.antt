use Rattle.std.proofs.Common.{take}
use Rattle.g4_lexer_rules.specs.Commands.{AreSymbols}
use Rattle.g4_lexer_rules.proofs.numbers.symbols_of.Given as goal

abbrev pub invariant-loop-token : goal.invariant-loop-token
invariant-loop-token l = AreSymbols (take l.token-index l.types) l.symbols
