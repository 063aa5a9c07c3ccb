use Rattle.std.proofs.Common.{◌≡◌, ◌++◌, [], ◌∷◌, map, take}
use Rattle.g4_lexer.specs.Tokens.{token_between}
use Rattle.g4_lexer.proofs.token.close.Given as goal

abbrev pub invariant-loop-symbol : goal.invariant-loop-symbol
invariant-loop-symbol l = record {
  found : l.found.items ≡ l.initial.found.items ++ map (λ symbol. token_between symbol 0 l.end l.end) (take l.symbol-index l.symbol-items);
  symbols : l.symbol-items ≡ 65536 ∷ 65536 ∷ 65536 ∷ 65536 ∷ 65537 ∷ [];
}
