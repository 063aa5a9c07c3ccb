-- A short text of each expression.
use Rattle.std.proofs.Common.{◌≡◌, List, [], ◌∷◌, ◌++◌, ℕ, Bool, true, false, ◌||◌, if◌then◌else◌, codes, bytes_eq, refl, sym, ap, ◌∙◌, true≢false}
use Rattle.std.proofs.lemmas.Slice.Eq.{bytes_eq-Decides}
use Rattle.g4_base.specs.Place.{first_place}
use Rattle.g4_grammar_tokens.specs.declared.token.Kind.{Kind}
use Rattle.g4_grammar_tokens.specs.declared.token.Kind.TheVariants as kinds
use Rattle.g4_syntax.specs.Notation.{Spelled, Terminal, of_kind, keyword, a_name, a_set, characters, excluded, fits, is_kind, Nonterminal, element, token_set, lexer_element, character_set, more_names, Expression, one, ◌▸◌, ◌∣◌, optional, repeated, part}
use Rattle.g4_syntax.specs.Trees.{can_be_empty}
use Rattle.g4_syntax.proofs.Truths.{apart, and_true, and_first_true, and_second_true}
use Rattle.g4_syntax.proofs.Texts.{first_empty, second_empty}

-- a token that the terminal asks for
abbrev pub sample_token : Terminal → Spelled
sample_token (of_kind kind) = record { kind = kind; place = first_place; bytes = codes "x" }
sample_token (keyword spelling) = record { kind = kinds.Lower; place = first_place; bytes = spelling }
sample_token a_name = record { kind = kinds.Lower; place = first_place; bytes = codes "x" }
sample_token a_set = record { kind = kinds.Set; place = first_place; bytes = codes "x" }
sample_token characters = record { kind = kinds.Literal; place = first_place; bytes = codes "x" }
sample_token excluded = record { kind = kinds.Literal; place = first_place; bytes = codes "x" }

-- the kind of the one token of a short text of the part
abbrev pub sample_kind : Nonterminal → Kind
sample_kind element = kinds.Action
sample_kind token_set = kinds.Upper
sample_kind lexer_element = kinds.Action
sample_kind character_set = kinds.Literal
sample_kind more_names = kinds.Comma

-- a short text of the expression, which is empty where one can be
abbrev pub sample : Expression → List Spelled
sample (one t) = sample_token t ∷ []
sample (x ▸ y) = sample x ++ sample y
sample (x ∣ y) = if can_be_empty y then sample y else sample x
sample (optional x) = []
sample (repeated x) = []
sample (part n) = sample_token (of_kind (sample_kind n)) ∷ []

-- a spelling is the same as itself
same_bytes : (bytes : List ℕ) → bytes_eq bytes bytes ≡ true
same_bytes bytes = (bytes_eq-Decides bytes bytes).1 refl

-- a kind is the same as itself
same_kind : (kind : Kind) → is_kind kind kind ≡ true
same_kind kinds.Lower = refl
same_kind _ = refl

-- the sample of a terminal is one
pub sample_fits : (t : Terminal) → fits t (sample_token t) ≡ true
sample_fits (of_kind kind) = same_kind kind
sample_fits (keyword spelling) = same_bytes spelling
sample_fits a_name = refl
sample_fits a_set = refl
sample_fits characters = refl
sample_fits excluded = refl

-- of two texts the chosen one is empty if it is so wherever it is chosen
chosen_empty : (b : Bool) (v w : List Spelled) → (b ≡ true → w ≡ []) → (b ≡ false → v ≡ []) → (if b then w else v) ≡ []
chosen_empty true v w second first = second refl
chosen_empty false v w second first = first refl

-- if one of two can be empty and the second cannot, the first can
other_can : (p q : Bool) → (p || q) ≡ true → q ≡ false → p ≡ true
other_can true q one_can none = refl
other_can false q one_can none = absurd (apart q one_can none)

-- an expression that can be empty has the empty text for a short one
pub empty_sample : (x : Expression) → can_be_empty x ≡ true → sample x ≡ []
empty_sample (one t) can = absurd (true≢false (sym can))
empty_sample (x ▸ y) can =
    ap (λ (w : List Spelled). w ++ sample y) (empty_sample x (and_first_true (can_be_empty x) (can_be_empty y) can))
    ∙ empty_sample y (and_second_true (can_be_empty x) (can_be_empty y) can)
empty_sample (x ∣ y) can =
    chosen_empty (can_be_empty y) (sample x) (sample y) (λ second. empty_sample y second)
    (λ none. empty_sample x (other_can (can_be_empty x) (can_be_empty y) can none))
empty_sample (optional x) can = refl
empty_sample (repeated x) can = refl
empty_sample (part n) can = absurd (true≢false (sym can))

-- if the chosen text is empty, one of two can be empty
one_can : (p q : Bool) (v w : List Spelled) → (if q then w else v) ≡ [] → (v ≡ [] → p ≡ true) → (p || q) ≡ true
one_can true q v w none first = refl
one_can false true v w none first = refl
one_can false false v w none first = first none

-- an expression with an empty short text can be empty
pub sample_empty : (x : Expression) → sample x ≡ [] → can_be_empty x ≡ true
sample_empty (one t) none = cc
sample_empty (x ▸ y) none =
    and_true (can_be_empty x) (can_be_empty y) (sample_empty x (first_empty (sample x) (sample y) none))
    (sample_empty y (second_empty (sample x) (sample y) none))
sample_empty (x ∣ y) none = one_can (can_be_empty x) (can_be_empty y) (sample x) (sample y) none (λ first. sample_empty x first)
sample_empty (optional x) none = refl
sample_empty (repeated x) none = refl
sample_empty (part n) none = cc
