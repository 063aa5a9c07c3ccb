-- What a vocabulary has.
use Rattle.std.specs.Prelude.{List, map}
use Rattle.g4_source.specs.declared.atom.Literal.{Literal}
use Rattle.g4_source.specs.declared.rule.LexerRule.{LexerRule}
use Rattle.g4_token_file.specs.declared.entry.TokenEntry.{TokenEntry}
use Rattle.g4_vocab.specs.declared.vocabulary.Vocabulary.{Vocabulary}

-- the lexer rules without `fragment`, whose tokens names and literals can name
abbrev pub lexers_in : Vocabulary → List LexerRule
lexers_in vocabulary = map (λ rule. rule.now) vocabulary.wholes.rules.items

-- the literals that have tokens of their own
abbrev pub own_in : Vocabulary → List Literal
own_in vocabulary = map (λ literal. literal.now) vocabulary.own.items

-- the table of types
abbrev pub types_in : Vocabulary → List TokenEntry
types_in vocabulary = vocabulary.types
