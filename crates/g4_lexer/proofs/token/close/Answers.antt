use Rattle.std.proofs.Common.{◌≡◌, ◌+◌, ◌<◌, ◌++◌, ℕ, List, [], ◌∷◌, length, map, take, get_or, sym, ap, ◌∙◌, append_assoc, arith}
use Rattle.std.proofs.lemmas.List.{map_more}
use Rattle.g4_tokens.specs.declared.token.Token.{Token}
use Rattle.g4_lexer.specs.declared.position.Position.{Position}
use Rattle.g4_lexer.specs.Tokens.{token_between}
use Rattle.g4_lexer.proofs.token.close.Goals as goal

-- one more token of no characters at the end
one_token_more : (end : Position) (i : ℕ) (symbols : List ℕ) (before found new : List Token) → i < length symbols
    → found ≡ before ++ map (λ symbol. token_between symbol 0 end end) (take i symbols)
    → new ≡ found ++ token_between (get_or symbols i 0) 0 end end ∷ [] →
    new ≡ before ++ map (λ symbol. token_between symbol 0 end end) (take (i + 1) symbols)
one_token_more end i symbols before found new within old pushed =
    let at : ℕ → Token = λ symbol. token_between symbol 0 end end in
    pushed ∙ ap (λ (f : List Token). f ++ at (get_or symbols i 0) ∷ []) old
    ∙ append_assoc before (map at (take i symbols)) (at (get_or symbols i 0) ∷ [])
    ∙ ap (λ (t : List Token). before ++ t) (sym (map_more at symbols i 0 within))

pub loop-symbol-preserved : goal.loop-symbol-preserved
loop-symbol-preserved c = record {
  found = one_token_more c.args.end c.loop-symbol.symbol-index (65536 ∷ 65536 ∷ 65536 ∷ 65536 ∷ 65537 ∷ []) c.args.found.now.items
      c.loop-symbol.found.items c.push.new.self.items (omega arith) c.loop-symbol.invariant.found c.in_ok-push.ensures.items;
  symbols = c.loop-symbol.invariant.symbols;
}
