-- The tokens of a text are parts of it.
use Rattle.std.proofs.Common.{◌≡◌, ℕ, zero, suc, ◌+◌, List, [], ◌∷◌, ◌++◌, Bool, true, false, Some, slice_get, map, refl, sym, ◌∙◌, ap, subst, take, drop, length, arith, append_assoc, length-append, take-append-drop, encode_utf8, encode_utf8_all}
use Rattle.std.specs.Prelude.{◌==◌, if◌then◌else◌}
use Rattle.std.proofs.lemmas.Bool.{and_parts, eqb-true}
use Rattle.std.specs.Char.{len_utf8}
use Rattle.std.specs.Str.{IsCharBoundary, chars, all_scalars}
use Rattle.std.proofs.lemmas.Str.{IsCharBoundary-at_seam, encodes-append, encodes-chars, scalars-chars, length-encode}
use Rattle.std.proofs.lemmas.List.Sums.{sum_by-cons}
use Rattle.g4_grammar_tokens.specs.Answers.{HasTokens, start_of, unmarked}
use Rattle.g4_grammar_tokens.specs.Positions.{byte_count, position_past}
use Rattle.g4_grammar_tokens.specs.Scanning.{AreTokens, at_end, after_gap, with_token, token_at, start_at}
use Rattle.g4_grammar_tokens.specs.Statements.{Word}
use Rattle.g4_grammar_tokens.specs.declared.position.Position.{Position}
use Rattle.g4_grammar_tokens.specs.declared.token.Token.{Token}
use Rattle.g4_cursor.specs.Parts.{IsPart, AreParts, each_is}

-- how many bytes characters take
bytes_counted : (cs : List ℕ) → byte_count cs ≡ length (encode_utf8_all cs)
bytes_counted [] = refl
bytes_counted (c ∷ cs) = sum_by-cons (λ (n : ℕ). n) (len_utf8 c) (map len_utf8 cs) ∙ ap (λ (n : ℕ). len_utf8 c + n) (bytes_counted cs)
    ∙ ap (λ (n : ℕ). n + length (encode_utf8_all cs)) (sym (length-encode c)) ∙ sym (length-append (encode_utf8 c) (encode_utf8_all cs))

-- the last of some scalar values are scalar values
scalars_after : (u v : List ℕ) → all_scalars (u ++ v) ≡ true → all_scalars v ≡ true
scalars_after [] v all = all
scalars_after (c ∷ cs) v all = scalars_after cs v (and_parts _ _ all).1

-- a character begins or the text ends after so many bytes of it
seam : (bytes before text : List ℕ) (n : ℕ) → bytes ≡ encode_utf8_all (before ++ text) → all_scalars text ≡ true
    → n ≡ length (encode_utf8_all before) → IsCharBoundary bytes n
seam bytes before text n parts all is =
    subst (IsCharBoundary bytes) (sym is) (IsCharBoundary-at_seam bytes (encode_utf8_all before) (encode_utf8_all text)
    (parts ∙ encodes-append before text) (text, (all, refl)))

-- where a piece has been cut off
abbrev IsAt : List ℕ → List ℕ → List ℕ → ℕ → Type 0
IsAt bytes before text n = (bytes ≡ encode_utf8_all (before ++ text)) × (all_scalars text ≡ true) × (n ≡ length (encode_utf8_all before))

-- where one more piece has been cut off
next_at : (bytes before : List ℕ) (c more : ℕ) (cs : List ℕ) (n : ℕ) → IsAt bytes before (c ∷ cs) n
    → IsAt bytes (before ++ c ∷ take more cs) (drop more cs) (n + byte_count (c ∷ take more cs))
next_at bytes before c more cs n (parts, all, is) =
    let piece = c ∷ take more cs in
    let whole : piece ++ drop more cs ≡ c ∷ cs = ap (λ (l : List ℕ). c ∷ l) (take-append-drop more cs) in (
      parts ∙ ap encode_utf8_all (sym (append_assoc before piece (drop more cs) ∙ ap (λ (l : List ℕ). before ++ l) whole)),
      scalars_after piece (drop more cs) (ap all_scalars whole ∙ all),
      rw (is, bytes_counted piece, encodes-append before piece) (sym (length-append (encode_utf8_all before) (encode_utf8_all piece))),
    )

-- one more token before
parts_more : (text : List ℕ) (t : Token) (ts : List Token) → IsPart text t → AreParts text ts → AreParts text (t ∷ ts)
parts_more text t ts first (each_is others) = each_is each
  where
    some_is : {a b : Token} → Some a ≡ Some b → a ≡ b
    some_is e = cc

    each : (at : ℕ) (token : Token) → slice_get (t ∷ ts) at ≡ Some token → IsPart text token
    each zero token is = subst (IsPart text) (some_is is) first
    each (suc at) token is = others at token is

-- the tokens of the rest of a text are parts of it
rest_parts : (bytes before : List ℕ) (words : List Word) (p : Position) (text : List ℕ) (tokens : List Token)
    → IsAt bytes before text p.index → AreTokens words p text tokens → AreParts bytes tokens
rest_parts bytes before words p _ _ here (at_end _ _) = each_is (λ at token is. absurd (nothing at token is))
  where
    nothing : (at : ℕ) (token : Token) → slice_get [] at ≡ Some token → ⊥
    nothing zero token e = cc
    nothing (suc at) token e = cc
rest_parts bytes before words p _ tokens here (after_gap _ _ c more cs _ e are) =
    rest_parts bytes (before ++ c ∷ take more cs) words (position_past p (c ∷ take more cs)) (drop more cs) tokens
    (next_at bytes before c more cs p.index here) are
rest_parts bytes before words p _ _ here (with_token _ _ c more kind cs others e are) =
    let piece = c ∷ take more cs in
    let there = next_at bytes before c more cs p.index here in
    parts_more bytes (token_at kind p piece) others
    (record {
      ordered = omega arith;
      begins = seam bytes before (c ∷ cs) p.index here.0 here.1 here.2;
      ends = seam bytes (before ++ piece) (drop more cs) (p.index + byte_count piece) there.0 there.1 there.2;
    })
    (rest_parts bytes (before ++ piece) _ (position_past p piece) (drop more cs) others there are)

-- the tokens of a text are parts of it
pub are_parts : (bytes : List ℕ) (tokens : List Token) → HasTokens bytes tokens → AreParts bytes tokens
unfolding lib.Utf8.encode
are_parts bytes tokens has = by_text (chars bytes) (sym (encodes-chars bytes has.utf8)) (scalars-chars bytes has.utf8) has.tokens_are
  where
    by_mark : (c : ℕ) (cs : List ℕ) (b : Bool) → (c == 65279) ≡ b → bytes ≡ encode_utf8_all (c ∷ cs) → all_scalars (c ∷ cs) ≡ true
        → AreTokens [] (start_at (if b then 3 else 0)) (if b then cs else c ∷ cs) tokens → AreParts bytes tokens
    by_mark c cs true is parts all are =
        let mark : c ≡ 65279 = eqb-true c 65279 is in
        rest_parts bytes (c ∷ []) [] (start_at 3) cs tokens
        (parts, scalars_after (c ∷ []) cs all, ap (λ (m : ℕ). length (encode_utf8_all (m ∷ []))) (sym mark)) are
    by_mark c cs false is parts all are = rest_parts bytes [] [] (start_at 0) (c ∷ cs) tokens (parts, all, refl) are

    by_text : (text : List ℕ) → bytes ≡ encode_utf8_all text → all_scalars text ≡ true
        → AreTokens [] (start_of text) (unmarked text) tokens → AreParts bytes tokens
    by_text [] parts all are = rest_parts bytes [] [] (start_at 0) [] tokens (parts, all, refl) are
    by_text (c ∷ cs) parts all are = by_mark c cs (c == 65279) refl parts all are

-- the token at an index is a part of the text
pub part_at : (text : List ℕ) (tokens : List Token) (at : ℕ) (token : Token) → AreParts text tokens → slice_get tokens at ≡ Some token
    → IsPart text token
part_at text tokens at token (each_is are) is = are at token is
