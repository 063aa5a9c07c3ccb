use Rattle.std.proofs.Common.{All, take}
use Rattle.g4_classes.specs.Classes.{IsSymbol}
use Rattle.g4_tokens.specs.TokenList.{word_of}
use Rattle.g4_learned_tests.proofs.asking.have_symbols.Given as goal

abbrev pub invariant-loop-token : goal.invariant-loop-token
invariant-loop-token l = All IsSymbol (word_of (take l.token-index l.tokens))
