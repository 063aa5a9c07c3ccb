-- Tokens come one after another in the bytes.
use Rattle.std.proofs.Common.{◌≡◌, ℕ, ◌+◌, ◌≤◌, List, [], ◌∷◌, Bool, true, false, cond, ◌==◌, Result, Ok, Err, IfOk, length, take, drop, ap, sym, subst, ◌∙◌, arith, length-append, refl}
use Rattle.std.specs.Char.{len_utf8}
use Rattle.std.specs.Str.{chars}
use Rattle.std.proofs.lemmas.List.Sums.{sum-map, sum_by-cons, sum_by-take-drop}
use Rattle.std.proofs.lemmas.Str.{len_utf8_bounds, length-encode, encodes-chars}
use Rattle.std.proofs.lemmas.Bool.Decides.{nat_tests}
use lib.Utf8.{encodes, encode}
use Rattle.g4_grammar_tokens.specs.Answers.{IsScan, start_of, unmarked}
use Rattle.g4_grammar_tokens.specs.Positions.{byte_count}
use Rattle.g4_grammar_tokens.specs.Scanning.{AreTokens, at_end, after_gap, with_token}
use Rattle.g4_grammar_tokens.specs.Spans.{AreInOrder}
use Rattle.g4_grammar_tokens.specs.Statements.{Word}
use Rattle.g4_grammar_tokens.specs.declared.position.Position.{Position}
use Rattle.g4_grammar_tokens.specs.declared.scanner.ScanFault.{ScanFault}
use Rattle.g4_grammar_tokens.specs.declared.token.Token.{Token}

split : (n : ℕ) (cs : List ℕ) → byte_count (take n cs) + byte_count (drop n cs) ≡ byte_count cs
split n cs =
    let front = sum-map len_utf8 (take n cs) in
    let rest = sum-map len_utf8 (drop n cs) in
    let whole = sum-map len_utf8 cs in
    let both = sum_by-take-drop len_utf8 cs n in
    omega (arith, front, rest, whole, both)

one_more : (c : ℕ) (cs : List ℕ) → byte_count (c ∷ cs) ≡ len_utf8 c + byte_count cs
one_more c cs = sum-map len_utf8 (c ∷ cs) ∙ sum_by-cons len_utf8 c cs ∙ ap (λ n. len_utf8 c + n) (sym (sum-map len_utf8 cs))

earlier : (from later until : ℕ) (tokens : List Token) → from ≤ later → AreInOrder later until tokens → AreInOrder from until tokens
earlier from later until [] before order = omega (arith, before, order)
earlier from later until (t ∷ ts) before order = (omega (arith, before, order.0), order.1, order.2)

-- the tokens of a text are within it
pub tokens_in_order : (words : List Word) (p : Position) (text : List ℕ) (tokens : List Token) → AreTokens words p text tokens
    → AreInOrder p.index (p.index + byte_count text) tokens
tokens_in_order _ _ _ _ (at_end words p) = omega arith
tokens_in_order _ _ _ tokens (after_gap words p c more cs _ is rest) =
    let taken : ℕ = byte_count (c ∷ take more cs) in
    let next : ℕ = p.index + taken in
    let order : AreInOrder next (next + byte_count (drop more cs)) tokens = tokens_in_order words _ (drop more cs) tokens rest in
    let same : next + byte_count (drop more cs) ≡ p.index + byte_count (c ∷ cs) =
    omega (arith, split more cs, one_more c cs, one_more c (take more cs)) in
    let before : p.index ≤ next = omega arith in
    earlier p.index next (p.index + byte_count (c ∷ cs)) tokens before (subst (λ (until : ℕ). AreInOrder next until tokens) same order)
tokens_in_order _ _ _ _ (with_token words p c more kind cs tokens is rest) =
    let taken : ℕ = byte_count (c ∷ take more cs) in
    let next : ℕ = p.index + taken in
    let order : AreInOrder next (next + byte_count (drop more cs)) tokens = tokens_in_order _ _ (drop more cs) tokens rest in
    let same : next + byte_count (drop more cs) ≡ p.index + byte_count (c ∷ cs) =
    omega (arith, split more cs, one_more c cs, one_more c (take more cs)) in
    let some = len_utf8_bounds c in
    (omega arith, omega (arith, some.0, one_more c (take more cs)), subst (λ (until : ℕ). AreInOrder next until tokens) same order)

-- how many bytes characters take
pub bytes_of : (cs : List ℕ) → length (encodes cs) ≡ byte_count cs
bytes_of [] = refl
bytes_of (c ∷ cs) =
    let joined = length-append (encode c) (encodes cs) in
    let one = length-encode c in
    let others = bytes_of cs in
    omega (arith, joined, one, others, one_more c cs)

mark_bytes : (c : ℕ) → (c == 65279) ≡ true → len_utf8 c ≡ 3
mark_bytes c is =
    let same : c ≡ 65279 = grind (arith, nat_tests) in
    ap len_utf8 same

by_mark : (c : ℕ) (cs : List ℕ) (mark : Bool) → (c == 65279) ≡ mark
    → cond mark 3 0 + byte_count (cond mark cs (c ∷ cs)) ≡ byte_count (c ∷ cs)
by_mark c cs true is =
    let three = mark_bytes c is in
    omega (arith, three, one_more c cs)
by_mark c cs false is = omega arith

unmarked_bytes : (text : List ℕ) → (start_of text).index + byte_count (unmarked text) ≡ byte_count text
unmarked_bytes [] = refl
unmarked_bytes (c ∷ cs) = by_mark c cs (c == 65279) refl

-- the tokens of bytes are within them
pub scan_in_order : (bytes : List ℕ) (r : Result (List Token) ScanFault) → IsScan bytes r → IfOk r (AreInOrder 0 (length bytes))
scan_in_order bytes (Ok tokens) is =
    let text : List ℕ = chars bytes in
    let whole : byte_count text ≡ length bytes = sym (bytes_of text) ∙ ap length (encodes-chars bytes is.utf8) in
    let all : (start_of text).index + byte_count (unmarked text) ≡ length bytes = unmarked_bytes text ∙ whole in
    let order = tokens_in_order [] (start_of text) (unmarked text) tokens is.tokens_are in
    let before : 0 ≤ (start_of text).index = omega arith in
    earlier 0 (start_of text).index (length bytes) tokens before
    (subst (λ (until : ℕ). AreInOrder (start_of text).index until tokens) all order)
scan_in_order bytes (Err fault) is = tt
