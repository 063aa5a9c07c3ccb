use Rattle.std.proofs.Common.{◌≡◌, ◌++◌, map, take}
use Rattle.g4_lexer_rules.specs.Types.{type_by_names}
use Rattle.g4_lexer_rules.proofs.gathering.types_of.Given as goal

abbrev pub invariant-loop-token : goal.invariant-loop-token
invariant-loop-token l = l.types.items ≡ map (λ token. token.symbol) (take l.token-index l.literals)

abbrev pub invariant-rules : goal.invariant-rules
invariant-rules l = l.types.items ≡ map (λ token. token.symbol) l.literals ++ map (type_by_names l.symbols) (take l.rule-index l.rules)
