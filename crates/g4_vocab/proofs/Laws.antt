-- What holds of every vocabulary.
use Rattle.std.proofs.Common.{ℕ, zero, suc, ◌+◌, ◌<◌, ◌≤◌, ◌==◌, List, [], ◌∷◌, map, not, Bool, true, false, cond, codes, Some, max, slice_index_or, arith, All, Contains}
use Rattle.std.specs.Option.{unwrap_or}
use Rattle.std.specs.Str.{bytes_eq}
use Rattle.std.specs.List.{flat_map, range_with_len, list_any}
use Rattle.std.proofs.lemmas.List.Elements.{All-append, All-cons, All-filter, All-map, All-nil}
use Rattle.g4_tokens.specs.declared.symbol.TheConstants.{MOST_TYPES}
use Rattle.g4_tokens.specs.Symbols.{eof, end_of_list}
use Rattle.g4_source.specs.declared.atom.AtomKind.{AtomKind}
use Rattle.g4_source.specs.declared.atom.AtomKind.TheVariants as kinds
use Rattle.g4_source.specs.declared.atom.Literal.{Literal}
use Rattle.g4_source.specs.declared.atom.TokenReference.{TokenReference}
use Rattle.g4_source.specs.declared.atom.TokenReference.TheVariants as refs
use Rattle.g4_source.specs.declared.rule.LexerRule.{LexerRule}
use Rattle.g4_grammar.specs.declared.token_types.TokenLiteral.{TokenLiteral}
use Rattle.g4_grammar.specs.declared.token_types.TokenName.{TokenName}
use Rattle.g4_token_file.specs.Keys.{greatest_number, is_key, number_of}
use Rattle.g4_token_file.specs.declared.entry.TokenKey.{TokenKey}
use Rattle.g4_token_file.specs.declared.entry.TokenKey.TheVariants as keys
use Rattle.g4_token_file.specs.declared.entry.TokenEntry.{TokenEntry}
use Rattle.g4_vocab.specs.Types.{all_types, is_type, type_of}
use Rattle.g4_vocab.specs.Numbering.{literal_key, symbol_of, symbols_of_kind, types_without}
use Rattle.g4_vocab.specs.Shown.{names_of, of_type, own_token, own_tokens}

-- types are at most the greatest
pub type_low : (table : List TokenEntry) (key : TokenKey) → type_of table key ≤ greatest_number table
type_low [] key = omega arith
type_low (entry ∷ table) key = by (is_key entry.key key) (type_low table key)
  where
    by : (b : Bool) → type_of table key ≤ greatest_number table
        → unwrap_or (cond b (Some entry.number) (number_of table key)) 0 ≤ max entry.number (greatest_number table)
    by true h = omega arith
    by false h = omega (arith, h)

-- numbers from one on are below the end
range_low : (a n most : ℕ) → a + n ≤ most → All (λ s. s < most) (range_with_len a n)
range_low a zero most le = All-nil (λ s. s < most)
range_low a (suc n) most le = All-cons (λ s. s < most) a (range_with_len (a + 1) n) (omega (arith, le))
    (range_low (a + 1) n most (omega (arith, le)))

-- END is not among symbols below it
no_end : (set : List ℕ) → All (λ s. s < end_of_list) set → Contains set end_of_list → ⊥
no_end set low (k, less, is) = omega (arith, low k end_of_list less, is)

module _ (lexers : List LexerRule) (types : List TokenEntry) (few : greatest_number types ≤ MOST_TYPES) where
  -- symbols of tokens are below END
  symbol_low : (token : TokenReference) → symbol_of lexers types token < end_of_list
  symbol_low (refs.Token name) = by (bytes_eq name (codes "EOF")) (type_low types (keys.Name name))
    where
      by : (b : Bool) → type_of types (keys.Name name) ≤ greatest_number types → cond b eof (type_of types (keys.Name name)) < end_of_list
      by true h = omega arith
      by false h = omega (arith, h, few)
  symbol_low (refs.Literal literal) = omega (arith, few, type_low types (literal_key lexers literal.characters))

  one_low : (s : ℕ) → s < end_of_list → Contains (s ∷ []) end_of_list → ⊥
  one_low s less = no_end (s ∷ []) (All-cons (λ (x : ℕ). x < end_of_list) s [] less (All-nil (λ (x : ℕ). x < end_of_list)))

  none_low : Contains [] end_of_list → ⊥
  none_low = no_end [] (All-nil (λ (x : ℕ). x < end_of_list))

  types_low : All (λ s. s < end_of_list) (all_types types)
  types_low = All-filter (is_type types) (λ (x : ℕ). x < end_of_list) (range_with_len 1 (greatest_number types))
      (range_low 1 (greatest_number types) end_of_list (omega (arith, few)))

  -- no atom of a parser rule reads END
  pub leaves_end : (kind : AtomKind) → Contains (symbols_of_kind lexers types kind) end_of_list → ⊥
  leaves_end (kinds.Rule name) = none_low
  leaves_end (kinds.Token name) = one_low (symbol_of lexers types (refs.Token name.text)) (symbol_low (refs.Token name.text))
  leaves_end (kinds.Literal literal) = one_low (symbol_of lexers types (refs.Literal literal)) (symbol_low (refs.Literal literal))
  leaves_end (kinds.Range first last) = none_low
  leaves_end (kinds.Set set) = none_low
  leaves_end kinds.Any = no_end (all_types types) types_low
  leaves_end (kinds.NotTokens tokens) =
      no_end (types_without lexers types tokens)
      (All-filter (λ (type : ℕ). not (list_any (λ token. symbol_of lexers types token == type) tokens))
      (λ (x : ℕ). x < end_of_list) (all_types types) types_low)
  leaves_end (kinds.NotCharacters set) = none_low
  leaves_end kinds.Action = none_low
  leaves_end (kinds.Predicate name) = none_low

-- the symbols of types that have names are types
pub names_low : (types : List TokenEntry) → greatest_number types ≤ MOST_TYPES → All (λ name. name.symbol ≤ MOST_TYPES) (names_of types)
names_low [] few = All-nil (λ (name : TokenName). name.symbol ≤ MOST_TYPES)
names_low (entry ∷ types) few = by entry.key (names_low types (omega (arith, few)))
  where
    by : (key : TokenKey) → All (λ name. name.symbol ≤ MOST_TYPES) (names_of types)
        → All (λ name. name.symbol ≤ MOST_TYPES) (names_of (record { key = key; number = entry.number; written = entry.written } ∷ types))
    by (keys.Name name) rest = All-cons (λ (name : TokenName). name.symbol ≤ MOST_TYPES) _ (names_of types) (omega (arith, few)) rest
    by (keys.Literal characters) rest = rest

-- so are those of the types of literals
module _ (P : TokenLiteral → Type 0) (tokens : List TokenLiteral) (all : All P tokens) where
  -- what holds of tokens holds of those of some types
  types_have : (numbers : List ℕ) → All P (flat_map (of_type tokens) numbers)
  types_have [] = All-nil P
  types_have (number ∷ numbers) = All-append P (of_type tokens number) (flat_map (of_type tokens) numbers)
      (All-filter (λ (token : TokenLiteral). token.symbol == number) P tokens all) (types_have numbers)

pub literals_low : (own : List Literal) (types : List TokenEntry) → greatest_number types ≤ MOST_TYPES
    → All (λ literal. literal.symbol ≤ MOST_TYPES) (own_tokens own types)
literals_low own types few =
    types_have (λ (literal : TokenLiteral). literal.symbol ≤ MOST_TYPES) (map (own_token types) own)
    (All-map (λ (literal : TokenLiteral). literal.symbol ≤ MOST_TYPES) (own_token types) own
    (λ k d less. omega (arith, few, type_low types (keys.Literal (slice_index_or own k d).characters))))
    (range_with_len 0 (greatest_number types + 1))
