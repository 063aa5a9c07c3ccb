-- The one token that a text is.
use Rattle.std.proofs.Common.{◌≡◌, ◌≢◌, ℕ, Bool, true, false, cond, List, [], ◌∷◌, Some, None, Result, Ok, Err, ◌&&◌, ◌==◌, length, refl, ap, sym, ◌∙◌, subst, arith}
use Rattle.std.proofs.lemmas.Bool.Decides.{nat_tests}
use Rattle.std.specs.Str.{IsUtf8, chars}
use Rattle.g4_grammar_tokens.specs.Answers.{HasTokens, IsScan}
use Rattle.g4_grammar_tokens.specs.Spelling.{literal_spelling}
use Rattle.g4_grammar_tokens.specs.declared.scanner.ScanFault.{ScanFault}
use Rattle.g4_grammar_tokens.specs.declared.scanner.ScanFault.TheVariants.{NoMemory}
use Rattle.g4_grammar_tokens.specs.declared.token.Kind.{Kind}
use Rattle.g4_grammar_tokens.specs.declared.token.Kind.TheVariants as kinds
use Rattle.g4_grammar_tokens.specs.declared.token.Token.{Token}
use Rattle.g4_grammar_tokens.proofs.OneScan.{one_scan}
use Rattle.g4_token_file.specs.Answers.{Answers}
use Rattle.g4_token_file.specs.Lines.{IsKey, IsToken, is_literal, is_name, whole_kind}
use Rattle.g4_token_file.specs.declared.entry.TokenKey.{TokenKey}
use Rattle.g4_token_file.specs.declared.entry.TokenKey.TheVariants.{Name, Literal}
use Rattle.g4_token_file.specs.declared.fault.LineFault.{LineFault}
use Rattle.g4_token_file.specs.declared.fault.LineFault.TheVariants.{Bad, Past}
use Rattle.g4_token_file.specs.declared.fault.LineFault.TheVariants as lines

-- scanning answers with tokens, or with a fault
abbrev tokens_of : List Token → Result (List Token) ScanFault
tokens_of tokens = Ok tokens

abbrev fault_of : ScanFault → Result (List Token) ScanFault
fault_of fault = Err fault

scanned : (tokens : List Token) → tokens_of tokens ≢ fault_of NoMemory
scanned tokens is = absurd cc

answers_same : (a b : List Token) → tokens_of a ≡ tokens_of b → a ≡ b
answers_same a b is = cc

-- a text has one list of tokens
one_tokens : (text : List ℕ) (a b : List Token) → HasTokens text a → HasTokens text b → a ≡ b
one_tokens text a b is also = answers_same a b (one_scan text (Ok a) (Ok b) is also (scanned a) (scanned b))

-- the kind of the first token
first_kind : Kind → List Token → Kind
first_kind kind [] = kind
first_kind kind (token ∷ more) = token.kind

-- a text is a token of one kind
pub one_kind : (text : List ℕ) (a b : Kind) → IsToken a text → IsToken b text → a ≡ b
unfolding first_kind
one_kind text a b is also = ap (first_kind a) (one_tokens text _ _ is.tokens also.tokens)

equal_is : (m n : ℕ) → (m == n) ≡ true → m ≡ n
equal_is m n is = grind (arith, nat_tests)

is_equal : (n : ℕ) → (n == n) ≡ true
is_equal n = grind (arith, nat_tests)

kinds_same : (a b : Kind) → Some a ≡ Some b → a ≡ b
kinds_same a b is = cc

one_token : (text : List ℕ) (token : Token) (kind : Kind) → HasTokens text (token ∷ []) → token.kind ≡ kind → token.start ≡ 0
    → token.end ≡ length text → IsToken kind text
one_token text token kind has kind_is start_is end_is = record {
  place = token.place;
  tokens = subst (HasTokens text)
      (ap (λ (k : Kind). record { kind = k; place = token.place; start = token.start; end = token.end } ∷ []) kind_is
      ∙ (ap (λ (s : ℕ). record { kind = kind; place = token.place; start = s; end = token.end } ∷ []) start_is
      ∙ ap (λ (e : ℕ). record { kind = kind; place = token.place; start = 0; end = e } ∷ []) end_is)) has;
}

by_tests : (text : List ℕ) (token : Token) (kind : Kind) (a b : Bool) → (token.start == 0) ≡ a → (token.end == length text) ≡ b
    → HasTokens text (token ∷ []) → cond (a && b) (Some token.kind) None ≡ Some kind → IsToken kind text
by_tests text token kind true true starts ends has is = one_token text token kind has (kinds_same token.kind kind is)
    (equal_is token.start 0 starts) (equal_is token.end (length text) ends)
by_tests text token kind true false starts ends has is = absurd cc
by_tests text token kind false b starts ends has is = absurd cc

-- the text is the token that is the whole of it
pub whole_is : (text : List ℕ) (tokens : List Token) (kind : Kind) → HasTokens text tokens → whole_kind tokens (length text) ≡ Some kind
    → IsToken kind text
whole_is text [] kind has is = absurd cc
whole_is text (token ∷ []) kind has is =
    by_tests text token kind (token.start == 0) (token.end == length text) refl refl has is
whole_is text (token ∷ other ∷ more) kind has is = absurd cc

chosen : (b : Bool) (kind : Kind) → b ≡ true → cond b (Some kind) None ≡ None → ⊥
chosen true kind is none = absurd cc
chosen false kind is none = absurd cc

-- where no token is the whole text, it is none
pub not_whole : (text : List ℕ) (tokens : List Token) → HasTokens text tokens → whole_kind tokens (length text) ≡ None → (kind : Kind)
    → IsToken kind text → ⊥
not_whole text tokens has none kind is =
    let same : tokens ≡ record { kind = kind; place = is.place; start = 0; end = length text } ∷ [] =
    one_tokens text tokens _ has is.tokens in
    let moved = subst (λ (ts : List Token). whole_kind ts (length text) ≡ None) same none in
    chosen (length text == length text) kind (is_equal (length text)) moved

tokens_or_fault : (tokens : List Token) (fault : ScanFault) → fault_of fault ≡ tokens_of tokens → ⊥
tokens_or_fault tokens fault is = absurd cc

-- a text with a fault is no token
pub not_scanned : (text : List ℕ) (fault : ScanFault) → IsScan text (Err fault) → fault_of fault ≢ fault_of NoMemory
    → (kind : Kind) → IsToken kind text → ⊥
not_scanned text fault is answered kind token =
    tokens_or_fault _ fault (one_scan text (Err fault) (Ok _) is token.tokens answered (scanned _))

name_kind : (kind : Kind) → is_name kind ≡ true → kind ≡ kinds.Upper
name_kind kinds.Upper is = refl
name_kind _ is = absurd cc

literal_kind : (kind : Kind) → is_literal kind ≡ true → kind ≡ kinds.Literal
literal_kind kinds.Literal is = refl
literal_kind _ is = absurd cc

-- a token name
pub name_key : (text name : List ℕ) (kind : Kind) → IsToken kind text → is_name kind ≡ true → name ≡ text → IsKey text (Name name)
name_key text name kind token is same = (subst (λ (k : Kind). IsToken k text) (name_kind kind is) token, same)

-- a literal
pub literal_key : (text characters : List ℕ) (kind : Kind) → IsToken kind text → is_literal kind ≡ true
    → characters ≡ literal_spelling (chars text) → IsKey text (Literal characters)
literal_key text characters kind token is same = (subst (λ (k : Kind). IsToken k text) (literal_kind kind is) token, same)

-- a token of another kind is no key
pub other_kind : (text : List ℕ) (kind : Kind) → IsToken kind text → is_name kind ≡ false → is_literal kind ≡ false → (key : TokenKey)
    → IsKey text key → ⊥
other_kind text kind token no_name no_literal (Name name) is =
    let same : kind ≡ kinds.Upper = one_kind text kind kinds.Upper token is.0 in
    let named : is_name kind ≡ true = ap is_name same in absurd cc
other_kind text kind token no_name no_literal (Literal characters) is =
    let same : kind ≡ kinds.Literal = one_kind text kind kinds.Literal token is.0 in
    let literal : is_literal kind ≡ true = ap is_literal same in absurd cc

-- a text that is no token is no key
pub no_key : (text : List ℕ) → ((kind : Kind) → IsToken kind text → ⊥) → (key : TokenKey) → IsKey text key → ⊥
no_key text none (Name name) is = none kinds.Upper is.0
no_key text none (Literal characters) is = none kinds.Literal is.0

-- the fault of a token is that of its key
pub token_fault : (text : List ℕ) (fault : LineFault) → Answers (λ kind. IsToken kind text) (Err fault)
    → Answers (IsKey text) (Err fault)
token_fault text Bad none = no_key text none
token_fault text Past none = none
token_fault text lines.NoMemory none = tt

-- what is no text is no key
pub no_text : (text : List ℕ) → (IsUtf8 text → ⊥) → (key : TokenKey) → IsKey text key → ⊥
no_text text none key is = no_key text (λ kind token. none token.tokens.utf8) key is

-- a text is at most one key
pub one_key : (text : List ℕ) (a b : TokenKey) → IsKey text a → IsKey text b → a ≡ b
one_key text (Name a) (Name b) is also = ap Name (is.1 ∙ sym also.1)
one_key text (Name a) (Literal b) is also = let same : kinds.Upper ≡ kinds.Literal = one_kind text _ _ is.0 also.0 in absurd cc
one_key text (Literal a) (Name b) is also = let same : kinds.Literal ≡ kinds.Upper = one_kind text _ _ is.0 also.0 in absurd cc
one_key text (Literal a) (Literal b) is also = ap Literal (is.1 ∙ sym also.1)
