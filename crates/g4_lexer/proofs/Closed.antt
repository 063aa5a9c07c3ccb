-- The tokens of a file and those that close it.
use Rattle.std.proofs.Common.{◌≡◌, ℕ, zero, suc, ◌≤◌, inl, inr, List, [], ◌∷◌, ◌++◌, length, Bool, true, false, cond, ◌==◌, All, Contains, refl, sym, ap, ◌∙◌, subst, arith}
use Rattle.std.specs.Str.{encode_utf8_all}
use Rattle.std.proofs.lemmas.List.Elements.{All-append, All-nil, All-cons}
use Rattle.std.proofs.lemmas.Str.{encodes-chars}
use Rattle.g4_tokens.specs.Symbols.{eof, end_of_list}
use Rattle.g4_lexer.specs.Lexers.{IsOfList, IsOfText}
use Rattle.g4_tokens.specs.declared.token.Token.{Token}
use Rattle.g4_tokens.specs.TokenList.{word_of, EndsInEnd}
use Rattle.g4_lexer.specs.declared.position.Position.{Position}
use Rattle.g4_lexer.specs.Decoding.{AreCharacters}
use Rattle.g4_lexer.specs.Positions.{first_position, position_after}
use Rattle.g4_lexer.specs.Tokens.{token_between, closing_at, EndsBy, visible}

-- each of the symbols is a token type or EOF
abbrev AreLow : List ℕ → Type 0
AreLow [] = Unit {0}
AreLow (a ∷ more) = (a ≤ eof) × AreLow more

low_lacks : (w : List ℕ) → AreLow w → Contains w end_of_list → ⊥
low_lacks [] low (k, less, is) = omega arith
low_lacks (a ∷ w) low (zero, less, is) = omega (arith, low.0)
low_lacks (a ∷ w) low (suc k, less, is) = low_lacks w low.1 (k, omega arith, is)

-- a token type or EOF is
low_type : (symbol : ℕ) → IsOfText symbol → symbol ≤ eof
low_type symbol (inl (some, low)) = omega arith
low_type symbol (inr is) = omega arith

-- the symbols of the tokens, and of four EOF after them, are low
word_low : (found : List Token) → All (λ (token : Token). IsOfText token.symbol) found
    → AreLow (word_of found ++ eof ∷ eof ∷ eof ∷ eof ∷ [])
word_low [] types = (omega arith, (omega arith, (omega arith, (omega arith, tt))))
word_low (t ∷ ts) types = (low_type t.symbol (types 0 t (omega arith)), word_low ts (λ k d less. types (suc k) d (omega arith)))

word_closed : (found : List Token) (end : Position)
    → word_of (found ++ closing_at end) ≡ (word_of found ++ eof ∷ eof ∷ eof ∷ eof ∷ []) ++ end_of_list ∷ []
word_closed [] end = refl
word_closed (t ∷ ts) end = ap (λ w. t.symbol ∷ w) (word_closed ts end)

-- tokens of token types, closed, end in END
pub ends_in_end : (tokens found : List Token) (end : Position) → tokens ≡ found ++ closing_at end
    → All (λ (token : Token). IsOfText token.symbol) found → EndsInEnd (word_of tokens)
ends_in_end tokens found end is types =
    subst (λ (ts : List Token). EndsInEnd (word_of ts)) (sym is) (
      word_of found ++ eof ∷ eof ∷ eof ∷ eof ∷ [],
      word_closed found end,
      low_lacks (word_of found ++ eof ∷ eof ∷ eof ∷ eof ∷ []) (word_low found types),
    )

-- and each of their symbols is one of a list
of_list : (symbol : ℕ) → IsOfText symbol → IsOfList symbol
of_list symbol (inl type) = inl type
of_list symbol (inr is) = inr (inl is)

closed_symbols : (found : List Token) (end : Position) → All (λ (token : Token). IsOfText token.symbol) found
    → All IsOfList (word_of (found ++ closing_at end))
closed_symbols [] end types =
    All-cons IsOfList eof (eof ∷ eof ∷ eof ∷ end_of_list ∷ []) (inr (inl refl))
    (All-cons IsOfList eof (eof ∷ eof ∷ end_of_list ∷ []) (inr (inl refl))
    (All-cons IsOfList eof (eof ∷ end_of_list ∷ []) (inr (inl refl))
    (All-cons IsOfList eof (end_of_list ∷ []) (inr (inl refl))
    (All-cons IsOfList end_of_list [] (inr (inr refl)) (All-nil IsOfList)))))
closed_symbols (t ∷ ts) end types =
    All-cons IsOfList t.symbol (word_of (ts ++ closing_at end)) (of_list t.symbol (types 0 t (omega arith)))
    (closed_symbols ts end (λ k d less. types (suc k) d (omega arith)))

pub symbols_of_list : (tokens found : List Token) (end : Position) → tokens ≡ found ++ closing_at end
    → All (λ (token : Token). IsOfText token.symbol) found → All IsOfList (word_of tokens)
symbols_of_list tokens found end is types =
    subst (λ (ts : List Token). All IsOfList (word_of ts)) (sym is) (closed_symbols found end types)

-- the end of the characters of some bytes is that of the bytes
pub end_offset : (bytes text : List ℕ) (end : Position) → AreCharacters bytes text → end ≡ position_after first_position text
    → end.offset ≡ length bytes
end_offset bytes text end are is =
    let whole : encode_utf8_all text ≡ bytes = ap encode_utf8_all are.same ∙ encodes-chars bytes are.utf8 in
    omega (arith, ap (λ (p : Position). p.offset) is, ap length whole)

-- the tokens that close a file begin and end in it
closing_spans : (end : Position) (bytes : ℕ) → end.offset ≤ bytes → All (EndsBy bytes) (closing_at end)
closing_spans end bytes below =
    let at : ℕ → Token = λ symbol. token_between symbol 0 end end in
    let one : (symbol : ℕ) → EndsBy bytes (token_between symbol 0 end end) = λ symbol. (omega arith, omega arith) in
    let two = All-cons (EndsBy bytes) (at eof) (at end_of_list ∷ []) (one eof)
    (All-cons (EndsBy bytes) (at end_of_list) [] (one end_of_list) (All-nil (EndsBy bytes))) in
    let three = All-cons (EndsBy bytes) (at eof) (at eof ∷ at end_of_list ∷ []) (one eof) two in
    let four = All-cons (EndsBy bytes) (at eof) (at eof ∷ at eof ∷ at end_of_list ∷ []) (one eof) three in
    All-cons (EndsBy bytes) (at eof) (at eof ∷ at eof ∷ at eof ∷ at end_of_list ∷ []) (one eof) four

-- the spans of tokens and of those that close their file
pub spans_closed : (list found : List Token) (end : Position) (bytes : ℕ) → list ≡ found ++ closing_at end → end.offset ≤ bytes
    → All (EndsBy bytes) found → All (EndsBy bytes) list
spans_closed list found end bytes is below h =
    subst (λ (ts : List Token). All (EndsBy bytes) ts) (sym is)
    (All-append (EndsBy bytes) found (closing_at end) h (closing_spans end bytes below))

-- the parser sees no more tokens than there are
pub visible_few : (tokens : List Token) → length (visible tokens) ≤ length tokens
visible_few [] = omega arith
visible_few (t ∷ ts) = few (t.channel == 0) (visible ts) (visible_few ts)
  where
    few : (b : Bool) (shown : List Token) → length shown ≤ length ts → length (cond b (t ∷ shown) shown) ≤ length (t ∷ ts)
    few true shown below = omega arith
    few false shown below = omega arith
