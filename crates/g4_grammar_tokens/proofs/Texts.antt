-- The bytes of a token are a text.
use Rattle.std.proofs.Common.{◌≡◌, ℕ, ◌+◌, ◌-◌, zero, suc, List, [], ◌∷◌, ◌++◌, Bool, true, false, cond, ◌==◌, ◌&&◌, Result, Ok, Err, IfOk, length, take, drop, ap, sym, subst, ◌∙◌, arith, append_assoc, refl}
use Rattle.std.specs.Char.{len_utf8}
use Rattle.std.specs.Str.{chars, IsUtf8}
use Rattle.std.proofs.Math.Seq.{drop-append_seam, take-append_seam}
use Rattle.std.proofs.lemmas.Bool.Decides.{nat_tests}
use Rattle.std.proofs.lemmas.List.{take-append-drop}
use Rattle.std.proofs.lemmas.List.Sums.{sum-map, sum_by-append}
use Rattle.std.proofs.lemmas.Str.{encodes-append, encodes-chars, chars_from_encodes}
use lib.Utf8.{encodes, scalars, scalar}
use Rattle.g4_grammar_tokens.specs.Answers.{IsScan, start_of, unmarked}
use Rattle.g4_grammar_tokens.specs.Positions.{byte_count, position_past}
use Rattle.g4_grammar_tokens.specs.Scanning.{AreTokens, at_end, after_gap, with_token}
use Rattle.g4_grammar_tokens.specs.Spans.{AreTexts}
use Rattle.g4_grammar_tokens.specs.Statements.{Word}
use Rattle.g4_grammar_tokens.specs.declared.position.Position.{Position}
use Rattle.g4_grammar_tokens.specs.declared.scanner.ScanFault.{ScanFault}
use Rattle.g4_grammar_tokens.specs.declared.token.Token.{Token}
use Rattle.g4_grammar_tokens.proofs.Spans.{bytes_of}

first_part : (a b : Bool) → (a && b) ≡ true → a ≡ true
first_part true b is = refl
first_part false b is = is

second_part : (a b : Bool) → (a && b) ≡ true → b ≡ true
second_part true b is = is
second_part false b is = absurd cc

both_parts : (a b : Bool) → a ≡ true → b ≡ true → (a && b) ≡ true
both_parts a b is also = rw is also

scalars_front : (n : ℕ) (cs : List ℕ) → scalars cs ≡ true → scalars (take n cs) ≡ true
scalars_front zero cs is = refl
scalars_front (suc n) [] is = refl
scalars_front (suc n) (c ∷ cs) is = both_parts (scalar c) (scalars (take n cs)) (first_part (scalar c) (scalars cs) is)
    (scalars_front n cs (second_part (scalar c) (scalars cs) is))

scalars_rest : (n : ℕ) (cs : List ℕ) → scalars cs ≡ true → scalars (drop n cs) ≡ true
scalars_rest zero cs is = is
scalars_rest (suc n) [] is = refl
scalars_rest (suc n) (c ∷ cs) is = scalars_rest n cs (second_part (scalar c) (scalars cs) is)

count_both : (xs ys : List ℕ) → byte_count (xs ++ ys) ≡ byte_count xs + byte_count ys
count_both xs ys = omega (arith, sum-map len_utf8 (xs ++ ys), sum-map len_utf8 xs, sum-map len_utf8 ys, sum_by-append len_utf8 xs ys)

text_here : (before w rest : List ℕ) (i : ℕ) → i ≡ byte_count before → scalars w ≡ true
    → IsUtf8 (take (i + byte_count w - i) (drop i (encodes (before ++ (w ++ rest)))))
text_here before w rest i index_is are =
    let at : i ≡ length (encodes before) = index_is ∙ sym (bytes_of before) in
    let joined : encodes (before ++ (w ++ rest)) ≡ encodes before ++ (encodes w ++ encodes rest) =
    encodes-append before (w ++ rest) ∙ ap (λ x. encodes before ++ x) (encodes-append w rest) in
    let dropped : drop i (encodes (before ++ (w ++ rest))) ≡ encodes w ++ encodes rest =
    ap (drop i) joined ∙ ap (λ n. drop n (encodes before ++ (encodes w ++ encodes rest))) at
    ∙ drop-append_seam (encodes before) (encodes w ++ encodes rest) in
    let count : i + byte_count w - i ≡ length (encodes w) = omega (arith, bytes_of w) in
    let taken : take (i + byte_count w - i) (drop i (encodes (before ++ (w ++ rest)))) ≡ encodes w =
    ap (take (i + byte_count w - i)) dropped ∙ ap (λ n. take n (encodes w ++ encodes rest)) count
    ∙ take-append_seam (encodes w) (encodes rest) in
    subst IsUtf8 (sym taken) (w, (are, refl))

-- the tokens of characters with others before them are texts
texts : (before : List ℕ) (words : List Word) (p : Position) (text : List ℕ) (tokens : List Token) → p.index ≡ byte_count before
    → scalars text ≡ true → AreTokens words p text tokens → AreTexts (encodes (before ++ text)) tokens
texts before _ _ _ _ index_is are (at_end words p) = tt
texts before _ _ _ tokens index_is are (after_gap words p c more cs _ is rest) =
    let w : List ℕ = c ∷ take more cs in
    let whole : (before ++ w) ++ drop more cs ≡ before ++ (c ∷ cs) =
    append_assoc before w (drop more cs) ∙ ap (λ x. before ++ (c ∷ x)) (take-append-drop more cs) in
    let next : p.index + byte_count w ≡ byte_count (before ++ w) = omega (arith, index_is, count_both before w) in
    let further = texts (before ++ w) words (position_past p w) (drop more cs) tokens next
    (scalars_rest more cs (second_part (scalar c) (scalars cs) are)) rest in
    subst (λ (l : List ℕ). AreTexts (encodes l) tokens) whole further
texts before _ _ _ _ index_is are (with_token words p c more kind cs tokens is rest) =
    let w : List ℕ = c ∷ take more cs in
    let whole : (before ++ w) ++ drop more cs ≡ before ++ (c ∷ cs) =
    append_assoc before w (drop more cs) ∙ ap (λ x. before ++ (c ∷ x)) (take-append-drop more cs) in
    let same : before ++ (w ++ drop more cs) ≡ before ++ (c ∷ cs) = ap (λ x. before ++ (c ∷ x)) (take-append-drop more cs) in
    let next : p.index + byte_count w ≡ byte_count (before ++ w) = omega (arith, index_is, count_both before w) in
    let here = text_here before w (drop more cs) p.index index_is (scalars_front (suc more) (c ∷ cs) are) in
    let further = texts (before ++ w) (record { kind = kind; characters = w } ∷ words) (position_past p w) (drop more cs) tokens next
    (scalars_rest more cs (second_part (scalar c) (scalars cs) are)) rest in (
      subst (λ (l : List ℕ). IsUtf8 (take (p.index + byte_count w - p.index) (drop p.index (encodes l)))) same here,
      subst (λ (l : List ℕ). AreTexts (encodes l) tokens) whole further,
    )

texts_by_mark : (c : ℕ) (cs : List ℕ) (tokens : List Token) (mark : Bool) → (c == 65279) ≡ mark → scalars (c ∷ cs) ≡ true
    → AreTokens [] (record { place = (start_of []).place; index = cond mark 3 0 }) (cond mark cs (c ∷ cs)) tokens
    → AreTexts (encodes (c ∷ cs)) tokens
texts_by_mark c cs tokens true is are tokens_are =
    let same : c ≡ 65279 = grind (arith, nat_tests) in
    let count : 3 ≡ byte_count (c ∷ []) = sym (ap (λ i. byte_count (i ∷ [])) same) in
    texts (c ∷ []) [] _ cs tokens count (second_part (scalar c) (scalars cs) are) tokens_are
texts_by_mark c cs tokens false is are tokens_are = texts [] [] _ (c ∷ cs) tokens refl are tokens_are

texts_of : (text : List ℕ) (tokens : List Token) → scalars text ≡ true → AreTokens [] (start_of text) (unmarked text) tokens
    → AreTexts (encodes text) tokens
texts_of [] tokens are tokens_are = texts [] [] _ [] tokens refl are tokens_are
texts_of (c ∷ cs) tokens are tokens_are = texts_by_mark c cs tokens (c == 65279) refl are tokens_are

-- the tokens of bytes are texts
pub scan_texts : (bytes : List ℕ) (r : Result (List Token) ScanFault) → IsScan bytes r → IfOk r (AreTexts bytes)
scan_texts bytes (Ok tokens) is =
    let are : scalars (chars bytes) ≡ true = subst (λ (cs : List ℕ). scalars cs ≡ true)
    (chars_from_encodes is.utf8.0 bytes is.utf8 is.utf8.1.1) is.utf8.1.0 in
    subst (λ (bs : List ℕ). AreTexts bs tokens) (encodes-chars bytes is.utf8) (texts_of (chars bytes) tokens are is.tokens_are)
scan_texts bytes (Err fault) is = tt
