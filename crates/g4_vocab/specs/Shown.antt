-- What is kept of a table of token types: what is shown of each type, the names, and the literals that have tokens of their own.
use Rattle.std.specs.Prelude.{ℕ, ◌+◌, ◌==◌, List, [], ◌∷◌, ◌++◌, map, filter, Option, Some, None, option_map, cond}
use Rattle.std.specs.List.{filter_map, flat_map, range_with_len}
use Rattle.g4_source.specs.declared.atom.Literal.{Literal}
use Rattle.g4_source.specs.declared.rule.LexerRule.{LexerRule}
use Rattle.g4_grammar.specs.declared.token_types.TokenLiteral.{TokenLiteral}
use Rattle.g4_grammar.specs.declared.token_types.TokenName.{TokenName}
use Rattle.g4_grammar.specs.declared.token_types.TokenTypes.{TokenTypes}
use Rattle.g4_token_file.specs.Keys.{greatest_number}
use Rattle.g4_token_file.specs.declared.entry.TokenKey.{TokenKey}
use Rattle.g4_token_file.specs.declared.entry.TokenKey.TheVariants as keys
use Rattle.g4_token_file.specs.declared.entry.TokenEntry.{TokenEntry}
use Rattle.g4_source.specs.declared.source.Source.{Source}
use Rattle.g4_vocab.specs.Types.{type_of}
use Rattle.g4_vocab.specs.Numbering.{own_of, rule_literal, token_lexers, types_of}

-- A way to show a type: its number, and a literal or a name of it as it is written.
pub record Face : Type 0 where
  pub number : ℕ
  pub text : List ℕ

-- a lexer rule's token, by the literal that names it as the rule writes that
abbrev pub rule_face : List LexerRule → List TokenEntry → LexerRule → Option Face
rule_face lexers types rule =
    option_map (λ literal. record { number = type_of types (keys.Name rule.name); text = literal.written }) (rule_literal lexers rule)

-- a literal that has a token of its own
abbrev pub own_face : List TokenEntry → Literal → Face
own_face types literal = record { number = type_of types (keys.Literal literal.characters); text = literal.written }

-- an entry of a table, as it is written, where its key is a literal
abbrev pub literal_by : ℕ → List ℕ → TokenKey → Option Face
literal_by number written (keys.Name name) = None
literal_by number written (keys.Literal characters) = Some (record { number = number; text = written })

abbrev pub literal_face : TokenEntry → Option Face
literal_face entry = literal_by entry.number entry.written entry.key

-- the same where its key is a name
abbrev pub name_by : ℕ → List ℕ → TokenKey → Option Face
name_by number written (keys.Name name) = Some (record { number = number; text = written })
name_by number written (keys.Literal characters) = None

abbrev pub name_face : TokenEntry → Option Face
name_face entry = name_by entry.number entry.written entry.key

-- the ways to show the types of a table, that of each first: a literal as the lexer rule writes it, as the parser rules first write it, or
-- as the table has it, and then a name
abbrev pub faces : List LexerRule → List Literal → List TokenEntry → List Face
faces lexers own types = filter_map (rule_face lexers types) lexers
    ++ (map (own_face types) own ++ (filter_map literal_face types ++ filter_map name_face types))

-- what is shown of the number: nothing, where no type has it
abbrev pub shown_as : List Face → ℕ → List ℕ
shown_as [] number = []
shown_as (face ∷ more) number = cond (face.number == number) face.text (shown_as more number)

-- what is shown of each number from 1 to the greatest type
abbrev pub shown_types : List LexerRule → List Literal → List TokenEntry → List (List ℕ)
shown_types lexers own types = map (shown_as (faces lexers own types)) (range_with_len 1 (greatest_number types))

-- a type with its name, where its key is a name
abbrev pub named_by : ℕ → TokenKey → Option TokenName
named_by number (keys.Name name) = Some (record { name = name; symbol = number })
named_by number (keys.Literal characters) = None

-- the same of an entry of the table
abbrev pub entry_name : TokenEntry → Option TokenName
entry_name entry = named_by entry.number entry.key

-- the types that have names, with these, in the order of the table
abbrev pub names_of : List TokenEntry → List TokenName
names_of types = filter_map entry_name types

-- a literal with its type
abbrev pub own_token : List TokenEntry → Literal → TokenLiteral
own_token types literal = record { literal = literal; symbol = type_of types (keys.Literal literal.characters) }

-- those of one type
abbrev pub of_type : List TokenLiteral → ℕ → List TokenLiteral
of_type tokens number = filter (λ token. token.symbol == number) tokens

-- literals whose types are at most the greatest, those of the least type first
abbrev pub by_type : ℕ → List TokenLiteral → List TokenLiteral
by_type greatest tokens = flat_map (of_type tokens) (range_with_len 0 (greatest + 1))

-- the literals that have tokens of their own, with their types
abbrev pub own_tokens : List Literal → List TokenEntry → List TokenLiteral
own_tokens own types = by_type (greatest_number types) (map (own_token types) own)

-- the token types of a table, of these lexer rules and these literals that have tokens of their own
abbrev pub token_types : List LexerRule → List Literal → List TokenEntry → TokenTypes
token_types lexers own types = record { shown = shown_types lexers own types; names = names_of types; literals = own_tokens own types }

-- what is shown of the types of a grammar, which a table begins
abbrev pub shown_of : List TokenEntry → Source → List (List ℕ)
shown_of table source = shown_types (token_lexers source.rules) (own_of source) (types_of table source)

-- the literals of the grammar that have tokens of their own, with their types
abbrev pub literals_of : List TokenEntry → Source → List TokenLiteral
literals_of table source = own_tokens (own_of source) (types_of table source)
