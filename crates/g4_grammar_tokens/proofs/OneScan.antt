-- A text has one list of tokens or one fault.
use Rattle.std.proofs.Common.{◌≡◌, ◌≢◌, ℕ, ◌+◌, List, [], ◌∷◌, Some, Result, Ok, Err, length, drop, take, refl, ap, sym, subst, ◌∙◌, arith}
use Rattle.std.specs.Str.{IsUtf8, IsValidUpTo, chars}
use Rattle.std.proofs.lemmas.Str.{utf8_valid_len-IsValidUpTo}
use Rattle.std.proofs.lemmas.List.{take_all}
use Rattle.g4_chars.specs.declared.escape.Context.TheVariants as Context
use Rattle.g4_grammar_tokens.specs.Answers.{IsScan, start_of, unmarked}
use Rattle.g4_grammar_tokens.specs.Pieces.{Closing, comment, literal, set, arguments, action, Opening, EndsComment, ends, IsEnd, IsPiece, at_once, with_end, endless, closed_piece}
use Rattle.g4_grammar_tokens.specs.Scanning.{AreTokens, at_end, after_gap, with_token, IsFaultyAt, right_here, past_gap, past_token, PieceAt, token_at}
use Rattle.g4_grammar_tokens.specs.Positions.{position_past}
use Rattle.g4_grammar_tokens.specs.Statements.{Word}
use Rattle.g4_grammar_tokens.specs.declared.piece.Piece.{Piece}
use Rattle.g4_grammar_tokens.specs.declared.piece.Piece.TheVariants.{Gap, Formed, Faulty}
use Rattle.g4_grammar_tokens.specs.declared.position.Position.{Position}
use Rattle.g4_grammar_tokens.specs.declared.scanner.ScanFault.{ScanFault}
use Rattle.g4_grammar_tokens.specs.declared.scanner.ScanFault.TheVariants.{NotUtf8, Syntax, NoMemory}
use Rattle.g4_grammar_tokens.specs.declared.token.Kind.{Kind}
use Rattle.g4_grammar_tokens.specs.declared.token.Token.{Token}
use Rattle.g4_grammar_tokens.proofs.Ends.{one_enclosed, one_nesting}

one_comment : (rest : List ℕ) (n m : ℕ) → EndsComment rest n → EndsComment rest m → n ≡ m
one_comment rest _ _ (ends n first) (ends m second) =
    let both : Some n ≡ Some m = sym first ∙ second in
    let same : n ≡ m = cc in
    ap (λ k. k + 1) same

-- a piece ends once
one_end : (closing : Closing) (rest : List ℕ) (n m : ℕ) → IsEnd closing rest n → IsEnd closing rest m → n ≡ m
one_end comment rest n m first second = one_comment rest n m first second
one_end literal rest n m first second = one_enclosed Context.Literal 39 n m rest first.0 second.0
one_end set rest n m first second = one_enclosed Context.Set 93 n m rest first second
one_end arguments rest n m first second = one_nesting 91 93 n m rest first second
one_end action rest n m first second = one_nesting 123 125 n m rest first second

-- one piece begins at a character
one_piece : (opening : Opening) (rest : List ℕ) (a b : Piece) → IsPiece opening rest a → IsPiece opening rest b → a ≡ b
one_piece _ _ _ _ (at_once piece rest) (at_once _ _) = refl
one_piece _ _ _ _ (with_end closing rest n first) (with_end _ _ m second) =
    ap (closed_piece closing) (one_end closing rest n m first second)
one_piece _ _ _ _ (with_end closing rest n first) (endless _ _ never) = absurd (never n first)
one_piece _ _ _ _ (endless closing rest never) (with_end _ _ m second) = absurd (never m second)
one_piece _ _ _ _ (endless closing rest never) (endless _ _ _) = refl

piece_pair : (words : List Word) (c : ℕ) (cs : List ℕ) (a b : Piece) → PieceAt words c cs a → PieceAt words c cs b → a ≡ b
piece_pair words c cs a b first second = one_piece _ cs a b first second

gaps : (n m : ℕ) → Gap n ≡ Gap m → n ≡ m
gaps n m is = cc

gap_or_token : (n m : ℕ) (kind : Kind) → Gap n ≡ Formed kind m → ⊥
gap_or_token n m kind is = cc

faulty_gap : (n : ℕ) → Faulty ≡ Gap n → ⊥
faulty_gap n is = cc

faulty_token : (n : ℕ) (kind : Kind) → Faulty ≡ Formed kind n → ⊥
faulty_token n kind is = cc

kinds : (n m : ℕ) (j k : Kind) → Formed j n ≡ Formed k m → j ≡ k
kinds n m j k is = cc

counts : (n m : ℕ) (j k : Kind) → Formed j n ≡ Formed k m → n ≡ m
counts n m j k is = cc

-- a text has one list of tokens
one_tokens : (words : List Word) (p : Position) (text : List ℕ) (a b : List Token) → AreTokens words p text a
    → AreTokens words p text b → a ≡ b
one_tokens _ _ _ _ _ (at_end words p) (at_end _ _) = refl
one_tokens _ _ _ _ b (after_gap words p c n cs a is first) (after_gap _ _ _ m _ _ also second) =
    let same : m ≡ n = gaps m n (piece_pair words c cs (Gap m) (Gap n) also is) in
    one_tokens words (position_past p (c ∷ take n cs)) (drop n cs) a b first
    (subst (λ (k : ℕ). AreTokens words (position_past p (c ∷ take k cs)) (drop k cs) b) same second)
one_tokens _ _ _ _ _ (after_gap words p c n cs a is first) (with_token _ _ _ m kind _ b also second) =
    absurd (gap_or_token n m kind (piece_pair words c cs (Gap n) (Formed kind m) is also))
one_tokens _ _ _ _ _ (with_token words p c n kind cs a is first) (after_gap _ _ _ m _ b also second) =
    absurd (gap_or_token m n kind (piece_pair words c cs (Gap m) (Formed kind n) also is))
one_tokens _ _ _ _ _ (with_token words p c n j cs a is first) (with_token _ _ _ m k _ b also second) =
    let pair = piece_pair words c cs (Formed k m) (Formed j n) also is in
    let count : m ≡ n = counts m n k j pair in
    let kind : k ≡ j = kinds m n k j pair in
    let by_count = subst (λ (i : ℕ). AreTokens (record { kind = k; characters = c ∷ take i cs } ∷ words)
    (position_past p (c ∷ take i cs)) (drop i cs) b) count second in
    let by_kind = subst (λ (i : Kind). AreTokens (record { kind = i; characters = c ∷ take n cs } ∷ words)
    (position_past p (c ∷ take n cs)) (drop n cs) b) kind by_count in
    let rest : a ≡ b = one_tokens (record { kind = j; characters = c ∷ take n cs } ∷ words) (position_past p (c ∷ take n cs))
    (drop n cs) a b first by_kind in
    ap (λ ts. token_at j p (c ∷ take n cs) ∷ ts) rest ∙ ap (λ (i : Kind). token_at i p (c ∷ take n cs) ∷ b) (sym kind)
    ∙ ap (λ (i : ℕ). token_at k p (c ∷ take i cs) ∷ b) (sym count)

-- a text has one fault
one_fault : (words : List Word) (p : Position) (text : List ℕ) (a b : Position) → IsFaultyAt words p text a
    → IsFaultyAt words p text b → a ≡ b
one_fault _ _ _ _ _ (right_here words p c cs is) (right_here _ _ _ _ _) = refl
one_fault _ _ _ _ b (right_here words p c cs is) (past_gap _ _ _ _ m _ also _) =
    absurd (faulty_gap m (piece_pair words c cs Faulty (Gap m) is also))
one_fault _ _ _ _ b (right_here words p c cs is) (past_token _ _ _ _ m kind _ also _) =
    absurd (faulty_token m kind (piece_pair words c cs Faulty (Formed kind m) is also))
one_fault _ _ _ _ _ (past_gap words p a c n cs is _) (right_here _ _ _ _ also) =
    absurd (faulty_gap n (piece_pair words c cs Faulty (Gap n) also is))
one_fault _ _ _ _ _ (past_token words p a c n kind cs is _) (right_here _ _ _ _ also) =
    absurd (faulty_token n kind (piece_pair words c cs Faulty (Formed kind n) also is))
one_fault _ _ _ _ _ (past_gap words p a c n cs is first) (past_gap _ _ b _ m _ also second) =
    let same : m ≡ n = gaps m n (piece_pair words c cs (Gap m) (Gap n) also is) in
    one_fault words (position_past p (c ∷ take n cs)) (drop n cs) a b first
    (subst (λ (k : ℕ). IsFaultyAt words (position_past p (c ∷ take k cs)) (drop k cs) b) same second)
one_fault _ _ _ _ _ (past_gap words p a c n cs is first) (past_token _ _ b _ m kind _ also second) =
    absurd (gap_or_token n m kind (piece_pair words c cs (Gap n) (Formed kind m) is also))
one_fault _ _ _ _ _ (past_token words p a c n kind cs is first) (past_gap _ _ b _ m _ also second) =
    absurd (gap_or_token m n kind (piece_pair words c cs (Gap m) (Formed kind n) also is))
one_fault _ _ _ _ _ (past_token words p a c n j cs is first) (past_token _ _ b _ m k _ also second) =
    let pair = piece_pair words c cs (Formed k m) (Formed j n) also is in
    let by_count = subst (λ (i : ℕ). IsFaultyAt (record { kind = k; characters = c ∷ take i cs } ∷ words)
    (position_past p (c ∷ take i cs)) (drop i cs) b) (counts m n k j pair) second in
    let by_kind = subst (λ (i : Kind). IsFaultyAt (record { kind = i; characters = c ∷ take n cs } ∷ words)
    (position_past p (c ∷ take n cs)) (drop n cs) b) (kinds m n k j pair) by_count in
    one_fault (record { kind = j; characters = c ∷ take n cs } ∷ words) (position_past p (c ∷ take n cs)) (drop n cs) a b first by_kind

-- a text with tokens has no fault
tokens_or_fault : (words : List Word) (p : Position) (text : List ℕ) (tokens : List Token) (at : Position)
    → AreTokens words p text tokens → IsFaultyAt words p text at → ⊥
tokens_or_fault _ _ _ _ at (at_end words p) fault = elim fault [ ]
tokens_or_fault _ _ _ _ at (after_gap words p c n cs a is first) (right_here _ _ _ _ also) =
    faulty_gap n (piece_pair words c cs Faulty (Gap n) also is)
tokens_or_fault _ _ _ _ at (after_gap words p c n cs a is first) (past_gap _ _ _ _ m _ also second) =
    let same : m ≡ n = gaps m n (piece_pair words c cs (Gap m) (Gap n) also is) in
    tokens_or_fault words (position_past p (c ∷ take n cs)) (drop n cs) a at first
    (subst (λ (k : ℕ). IsFaultyAt words (position_past p (c ∷ take k cs)) (drop k cs) at) same second)
tokens_or_fault _ _ _ _ at (after_gap words p c n cs a is first) (past_token _ _ _ _ m kind _ also second) =
    gap_or_token n m kind (piece_pair words c cs (Gap n) (Formed kind m) is also)
tokens_or_fault _ _ _ _ at (with_token words p c n kind cs a is first) (right_here _ _ _ _ also) =
    faulty_token n kind (piece_pair words c cs Faulty (Formed kind n) also is)
tokens_or_fault _ _ _ _ at (with_token words p c n kind cs a is first) (past_gap _ _ _ _ m _ also second) =
    gap_or_token m n kind (piece_pair words c cs (Gap m) (Formed kind n) also is)
tokens_or_fault _ _ _ _ at (with_token words p c n j cs a is first) (past_token _ _ _ _ m k _ also second) =
    let pair = piece_pair words c cs (Formed k m) (Formed j n) also is in
    let by_count = subst (λ (i : ℕ). IsFaultyAt (record { kind = k; characters = c ∷ take i cs } ∷ words)
    (position_past p (c ∷ take i cs)) (drop i cs) at) (counts m n k j pair) second in
    let by_kind = subst (λ (i : Kind). IsFaultyAt (record { kind = i; characters = c ∷ take n cs } ∷ words)
    (position_past p (c ∷ take n cs)) (drop n cs) at) (kinds m n k j pair) by_count in
    tokens_or_fault (record { kind = j; characters = c ∷ take n cs } ∷ words) (position_past p (c ∷ take n cs)) (drop n cs) a at first
    by_kind

text_or_none : (bytes : List ℕ) (at : ℕ) → IsUtf8 bytes → IsValidUpTo bytes at → ⊥
text_or_none bytes at utf8 valid = valid.longest (length bytes) valid.short
    (subst IsUtf8 (sym (take_all (length bytes) bytes (omega arith))) utf8)

-- the bytes have one answer
pub one_scan : (bytes : List ℕ) (a b : Result (List Token) ScanFault) → IsScan bytes a → IsScan bytes b → a ≢ Err NoMemory
    → b ≢ Err NoMemory → a ≡ b
one_scan bytes (Ok a) (Ok b) is also answered also_answered =
    ap Ok (one_tokens [] (start_of (chars bytes)) (unmarked (chars bytes)) a b is.tokens_are also.tokens_are)
one_scan bytes (Ok a) (Err (NotUtf8 at)) is also answered also_answered = absurd (text_or_none bytes at is.utf8 also)
one_scan bytes (Ok a) (Err (Syntax place index)) is also answered also_answered =
    absurd (tokens_or_fault [] (start_of (chars bytes)) (unmarked (chars bytes)) a (record { place = place; index = index })
    is.tokens_are also.opens)
one_scan bytes (Err (NotUtf8 at)) (Ok b) is also answered also_answered = absurd (text_or_none bytes at also.utf8 is)
one_scan bytes (Err (NotUtf8 at)) (Err (NotUtf8 other)) is also answered also_answered =
    ap (λ n. Err (NotUtf8 n)) (sym (utf8_valid_len-IsValidUpTo bytes at is) ∙ utf8_valid_len-IsValidUpTo bytes other also)
one_scan bytes (Err (NotUtf8 at)) (Err (Syntax place index)) is also answered also_answered = absurd (text_or_none bytes at also.utf8 is)
one_scan bytes (Err (Syntax place index)) (Ok b) is also answered also_answered =
    absurd (tokens_or_fault [] (start_of (chars bytes)) (unmarked (chars bytes)) b (record { place = place; index = index })
    also.tokens_are is.opens)
one_scan bytes (Err (Syntax place index)) (Err (NotUtf8 at)) is also answered also_answered = absurd (text_or_none bytes at is.utf8 also)
one_scan bytes (Err (Syntax place index)) (Err (Syntax other_place other)) is also answered also_answered =
    ap (λ (p : Position). Err (Syntax p.place p.index))
    (one_fault [] (start_of (chars bytes)) (unmarked (chars bytes)) (record { place = place; index = index })
    (record { place = other_place; index = other }) is.opens also.opens)
one_scan bytes (Err NoMemory) b is also answered also_answered = absurd (answered refl)
one_scan bytes a (Err NoMemory) is also answered also_answered = absurd (also_answered refl)
