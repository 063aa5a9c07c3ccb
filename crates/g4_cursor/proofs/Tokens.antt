-- What the first of the code's tokens is.
use Rattle.std.proofs.Common.{◌≡◌, ℕ, ◌+◌, List, [], ◌∷◌, length, Bool, true, false, ◌&&◌, ◌||◌, arith, ◌⊎◌, refl, sym, ◌∙◌, ap, add-one, Option, Some, None, true≢false}
use Rattle.std.specs.Prelude.{◌==◌, bytes_eq, is_some, option_map, slice_get, if◌then◌else◌}
use Rattle.std.proofs.lemmas.Option.{slice_get-map}
use Rattle.std.proofs.lemmas.Bool.{eq-eqb}
use Rattle.std.proofs.lemmas.Bool.Decides.{eqb_tells}
use mathlib.Core.Logic.{inl, inr}
use denote.Enum.Bare.{sameb}
use denote.Enum.Declared.{tag_of}
use Rattle.g4_grammar_tokens.specs.contracts.token.Kind.{the_type}
use Rattle.g4_grammar_tokens.specs.declared.token.Kind.{Kind}
use Rattle.g4_grammar_tokens.specs.declared.token.Kind.TheVariants as kinds
use Rattle.g4_grammar_tokens.specs.declared.token.Token.{Token}
use Rattle.g4_syntax.specs.Notation.{Spelled, Expression, number_of, is_kind, sign, word, name}
use Rattle.g4_cursor.specs.declared.cursor.Halt.{Halt}
use Rattle.g4_cursor.specs.Parts.{IsPart, AreParts, each_is}
use Rattle.g4_cursor.specs.Progress.{Progress, reading, stopped, progress, is_next, bytes_ahead}
use Rattle.g4_cursor.specs.Sets.{bytes_if}
use Rattle.g4_cursor.specs.Texts.{bytes_of, spelled, spelled_token}

-- the first token is a part of the text
pub first_part : {text : List ℕ} {tokens : List Token} (token : Token) (others : List Token) → tokens ≡ token ∷ others
    → AreParts text tokens → IsPart text token
first_part token others is (each_is each) = each 0 token (rw is refl)

-- the other tokens are parts of the text
pub other_parts : {text : List ℕ} {tokens : List Token} (token : Token) (others : List Token) → tokens ≡ token ∷ others
    → AreParts text tokens → AreParts text others
other_parts token others is (each_is each) = each_is (λ at other there. each (at + 1) other (rw (is, add-one) there))

-- two different numbers differ whichever is first
either_way_apart : (a b : ℕ) → (a ≡ b → ⊥) → ((b == a) ≡ true) × (b ≡ a) ⊎ ((b == a) ≡ false) × (b ≡ a → ⊥) → false ≡ (b == a)
either_way_apart a b differ (inl same) = absurd (differ (sym same.1))
either_way_apart a b differ (inr apart) = sym apart.0

-- the test of two numbers does not tell which is first
either_way : (a b : ℕ) → (a == b) ≡ (b == a)
either_way a b = elim (eqb_tells a b) [
  | inl same ↦ same.0 ∙ sym (eq-eqb b a (sym same.1))
  | inr differ ↦ differ.0
      ∙ either_way_apart a b differ.1 (eqb_tells b a)
]

-- the code numbers the kinds as the notation does
same_number : (kind : Kind) → tag_of the_type kind ≡ number_of kind
same_number kinds.Lower = refl
same_number _ = refl

-- the code's test of kinds is that of the notation
pub same_kind : (kind other : Kind) → sameb the_type kind other ≡ is_kind other kind
same_kind kind other = ap (λ (n : ℕ). n == tag_of the_type other) (same_number kind)
    ∙ ap (λ (n : ℕ). number_of kind == n) (same_number other) ∙ either_way (number_of kind) (number_of other)

-- whether the first token is of this kind
pub kind_next : (text : List ℕ) {tokens : List Token} (token : Token) (others : List Token) (halt : Option Halt) (kind : Kind)
    → tokens ≡ token ∷ others → is_some halt ≡ false
    → sameb the_type token.kind kind ≡ is_next (sign kind) (progress halt (spelled text tokens))
unfolding is_next
kind_next text token others None kind is has = rw is (same_kind token.kind kind)
kind_next text token others (Some halt) kind is has = absurd (true≢false has)

-- where reading has stopped nothing is next
pub none_stopped : (x : Expression) (halt : Option Halt) (rest : List Spelled) → is_some halt ≡ true
    → false ≡ is_next x (progress halt rest)
unfolding is_next
none_stopped x None rest has = absurd (true≢false (sym has))
none_stopped x (Some halt) rest has = refl

-- at the end nothing is next
pub none_past : (x : Expression) (text : List ℕ) (tokens : List Token) (halt : Option Halt) → length tokens ≡ 0
    → false ≡ is_next x (progress halt (spelled text tokens))
unfolding is_next
none_past x text [] None none = refl
none_past x text [] (Some halt) none = refl
none_past x text (token ∷ others) halt none = absurd (omega arith)

-- whether the first token, which is a lower-case name or not, is this word
pub word_next : (text spelling : List ℕ) {tokens : List Token} (token : Token) (others : List Token) (halt : Option Halt)
    (lower : Bool) → tokens ≡ token ∷ others → lower ≡ is_next (sign kinds.Lower) (progress halt (spelled text tokens))
    → (lower && bytes_eq (bytes_of text token) spelling) ≡ is_next (word spelling) (progress halt (spelled text tokens))
unfolding is_next
word_next text spelling token others (Some halt) lower is next = rw next refl
word_next text spelling token others None lower is next = rw (next, is) refl

-- whether the next token is a name of either case
pub name_next : (s : Progress) → is_next name s ≡ (is_next (sign kinds.Lower) s || is_next (sign kinds.Upper) s)
unfolding is_next
name_next (reading []) = refl
name_next (reading (token ∷ _)) = refl
name_next (stopped halt rest) = refl

-- the token that is there is a part of the text
pub part_at : {text : List ℕ} {tokens : List Token} (at : ℕ) (token : Token) → slice_get tokens at ≡ Some token → AreParts text tokens
    → IsPart text token
part_at at token is (each_is each) = each at token is

-- no bytes are ahead where reading has stopped
pub none_ahead : (many : ℕ) (kind : Kind) (halt : Option Halt) (rest : List Spelled) → is_some halt ≡ true
    → bytes_ahead many kind (progress halt rest) ≡ None
none_ahead many kind None rest has = absurd (true≢false (sym has))
none_ahead many kind (Some halt) rest has = refl

-- the bytes ahead are those of the token that is there, if it is of the kind
pub bytes_there : (text : List ℕ) (tokens : List Token) (many : ℕ) (kind : Kind) (halt : Option Halt) → is_some halt ≡ false
    → bytes_ahead many kind (progress halt (spelled text tokens)) ≡ bytes_if kind (option_map (spelled_token text) (slice_get tokens many))
bytes_there text tokens many kind None has = ap (bytes_if kind) (slice_get-map (spelled_token text) tokens many)
bytes_there text tokens many kind (Some halt) has = absurd (true≢false has)

-- the bytes of the token that is there
pub bytes_of_there : (text : List ℕ) (tokens : List Token) (many : ℕ) (kind : Kind) (halt : Option Halt) (token : Token) (b : Bool)
    → is_some halt ≡ false → slice_get tokens many ≡ Some token → sameb the_type token.kind kind ≡ b
    → bytes_ahead many kind (progress halt (spelled text tokens)) ≡ (if b then Some (bytes_of text token) else None)
bytes_of_there text tokens many kind halt token b has is same =
    bytes_there text tokens many kind halt has ∙ rw is
    (ap (λ (c : Bool). if c then Some (bytes_of text token) else None) (sym (same_kind token.kind kind) ∙ same))
