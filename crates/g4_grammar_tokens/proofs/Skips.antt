-- Characters that are passed over are dropped.
use Rattle.std.proofs.Common.{◌≡◌, ℕ, zero, suc, ◌+◌, List, [], ◌∷◌, ◌++◌, drop, take, refl, ap, ◌∙◌, arith, ◌<◌, ◌-◌, length, get_or, append_assoc, Some, None, true, false, ◌==◌, ◌≢◌}
use Rattle.std.proofs.lemmas.Bool.Decides.{nat_tests}
use Rattle.std.proofs.lemmas.List.{drop_more, drop-drop, take_rest}
use Rattle.g4_chars.specs.declared.escape.Context.{Context}
use Rattle.g4_grammar_tokens.specs.Nesting.{closes, depth_after, passed_over}
use Rattle.g4_grammar_tokens.specs.Enclosed.{unit_more}
use Rattle.g4_grammar_tokens.proofs.Ends.{enclosed_from, nesting_end_from, enclosed_skip, nesting_skip}
use Rattle.g4_grammar_tokens.specs.Spelling.{spelling_from, spelled}
use Rattle.g4_grammar_tokens.specs.declared.spelling.SpelledCharacter.{SpelledCharacter}

add_suc : (n k : ℕ) → (n + 1) + k ≡ n + suc k
add_suc n k = omega arith

-- the character at an index, and those after it
pub from_index : (text : List ℕ) (at c : ℕ) → at < length text → c ≡ get_or text at c
    → drop at text ≡ c ∷ take (length text - (at + 1)) (drop (at + 1) text)
from_index text at c h read =
    let more = drop_more text at c h in
    let rest = take_rest text (at + 1) in
    cc

-- what is left after a character and some more
pub further : (text : List ℕ) (at more : ℕ) → drop more (take (length text - (at + 1)) (drop (at + 1) text)) ≡ drop (at + (1 + more)) text
further text at more =
    let rest = take_rest text (at + 1) in
    let dropped = drop-drop more (at + 1) text in
    let same : at + (1 + more) ≡ at + 1 + more = omega arith in
    cc

nesting_step : (opening closing depth n c : ℕ) (cs : List ℕ) → closes closing depth c ≡ false
    → nesting_end_from opening closing depth 0 n (c ∷ cs)
    ≡ nesting_end_from opening closing (depth_after opening closing depth c) (passed_over opening closing c cs) (n + 1) cs
nesting_step opening closing depth n c cs open_still = rw open_still refl

-- one more character of what is nested
pub nesting_more : (opening closing depth at c next more : ℕ) (text : List ℕ) → at < length text → c ≡ get_or text at c
    → closes closing depth c ≡ false → next ≡ depth_after opening closing depth c
    → more ≡ passed_over opening closing c (take (length text - (at + 1)) (drop (at + 1) text))
    → nesting_end_from opening closing next 0 (at + (1 + more)) (drop (at + (1 + more)) text)
    ≡ nesting_end_from opening closing depth 0 at (drop at text)
nesting_more opening closing depth at c next more text h read open_still next_is more_is =
    let rest : List ℕ = take (length text - (at + 1)) (drop (at + 1) text) in
    let begun : nesting_end_from opening closing depth 0 at (drop at text) ≡ nesting_end_from opening closing depth 0 at (c ∷ rest) =
    ap (nesting_end_from opening closing depth 0 at) (from_index text at c h read) in
    let step : nesting_end_from opening closing depth 0 at (c ∷ rest)
    ≡ nesting_end_from opening closing (depth_after opening closing depth c) (passed_over opening closing c rest) (at + 1) rest =
    nesting_step opening closing depth at c rest open_still in
    let skipped = nesting_skip opening closing next more (at + 1) rest in
    let same : at + 1 + more ≡ at + (1 + more) = omega arith in
    let left = further text at more in
    cc

nesting_last : (opening closing depth n c : ℕ) (cs : List ℕ) → closes closing depth c ≡ true
    → nesting_end_from opening closing depth 0 n (c ∷ cs) ≡ Some (n + 1)
nesting_last opening closing depth n c cs closes_is = rw closes_is refl

-- the bracket that closes
pub nesting_stop : (opening closing depth at c : ℕ) (text : List ℕ) → at < length text → c ≡ get_or text at c
    → closes closing depth c ≡ true → nesting_end_from opening closing depth 0 at (drop at text) ≡ Some (at + 1)
nesting_stop opening closing depth at c text h read closes_is =
    ap (nesting_end_from opening closing depth 0 at) (from_index text at c h read)
    ∙ nesting_last opening closing depth at c (take (length text - (at + 1)) (drop (at + 1) text)) closes_is

enclosed_last : (context : Context) (close n c : ℕ) (cs : List ℕ) → (c == close) ≡ true
    → enclosed_from context close 0 n (c ∷ cs) ≡ Some (n + 1)
enclosed_last context close n c cs closes_is = rw (closes_is, enclosed_from) refl

-- the character that closes
pub enclosed_stop : (context : Context) (close at c : ℕ) (text : List ℕ) → at < length text → c ≡ get_or text at c → c ≡ close
    → enclosed_from context close 0 at (drop at text) ≡ Some (at + 1)
enclosed_stop context close at c text h read same =
    let closes_is : (c == close) ≡ true = grind (arith, nat_tests) in
    ap (enclosed_from context close 0 at) (from_index text at c h read)
    ∙ enclosed_last context close at c (take (length text - (at + 1)) (drop (at + 1) text)) closes_is

enclosed_broken : (context : Context) (close n c : ℕ) (cs : List ℕ) → (c == close) ≡ false → unit_more context c cs ≡ None
    → enclosed_from context close 0 n (c ∷ cs) ≡ None
enclosed_broken context close n c cs open_still unit_is = rw (open_still, enclosed_from) (rw unit_is refl)

-- a line's end or a bad escape
pub enclosed_fault : (context : Context) (close at c : ℕ) (text : List ℕ) → at < length text → c ≡ get_or text at c → c ≢ close
    → unit_more context c (take (length text - (at + 1)) (drop (at + 1) text)) ≡ None
    → enclosed_from context close 0 at (drop at text) ≡ None
enclosed_fault context close at c text h read other unit_is =
    let open_still : (c == close) ≡ false = grind (arith, nat_tests) in
    ap (enclosed_from context close 0 at) (from_index text at c h read)
    ∙ enclosed_broken context close at c (take (length text - (at + 1)) (drop (at + 1) text)) open_still unit_is

enclosed_step : (context : Context) (close n c more : ℕ) (cs : List ℕ) → (c == close) ≡ false → unit_more context c cs ≡ Some more
    → enclosed_from context close 0 n (c ∷ cs) ≡ enclosed_from context close more (n + 1) cs
enclosed_step context close n c more cs open_still unit_is = rw open_still (rw unit_is refl)

-- one more character of what is enclosed
pub enclosed_more : (context : Context) (close at c more : ℕ) (text : List ℕ) → at < length text → c ≡ get_or text at c → c ≢ close
    → unit_more context c (take (length text - (at + 1)) (drop (at + 1) text)) ≡ Some more
    → enclosed_from context close 0 (at + (1 + more)) (drop (at + (1 + more)) text) ≡ enclosed_from context close 0 at (drop at text)
enclosed_more context close at c more text h read other unit_is =
    let rest : List ℕ = take (length text - (at + 1)) (drop (at + 1) text) in
    let open_still : (c == close) ≡ false = grind (arith, nat_tests) in
    let begun : enclosed_from context close 0 at (drop at text) ≡ enclosed_from context close 0 at (c ∷ rest) =
    ap (enclosed_from context close 0 at) (from_index text at c h read) in
    let step = enclosed_step context close at c more rest open_still unit_is in
    let skipped = enclosed_skip context close more (at + 1) rest in
    let same : at + 1 + more ≡ at + (1 + more) = omega arith in
    let left = further text at more in
    cc

-- a spelling after characters that are passed over
pub spelling_skip : (k : ℕ) (text : List ℕ) → spelling_from k text ≡ spelling_from 0 (drop k text)
spelling_skip zero text = refl
spelling_skip (suc k) [] = refl
spelling_skip (suc k) (c ∷ cs) = spelling_skip k cs

spelling_step : (c : ℕ) (cs : List ℕ) (s : SpelledCharacter) → spelled c cs ≡ Some s
    → spelling_from 0 (c ∷ cs) ≡ s.character ∷ spelling_from s.more cs
spelling_step c cs s is = rw (is, spelling_from) refl

-- one more character that is spelled
pub spelling_more : (before after : List ℕ) (at c : ℕ) (text : List ℕ) (s : SpelledCharacter) → at < length text
    → c ≡ get_or text at c → spelled c (take (length text - (at + 1)) (drop (at + 1) text)) ≡ Some s
    → after ≡ before ++ (s.character ∷ []) → after ++ spelling_from 0 (drop (at + (1 + s.more)) text)
    ≡ before ++ spelling_from 0 (drop at text)
spelling_more before after at c text s h read is after_is =
    let rest : List ℕ = take (length text - (at + 1)) (drop (at + 1) text) in
    let begun : spelling_from 0 (drop at text) ≡ spelling_from 0 (c ∷ rest) = ap (spelling_from 0) (from_index text at c h read) in
    let step = spelling_step c rest s is in
    let skipped = spelling_skip s.more rest in
    let left = further text at s.more in
    let joined : (before ++ (s.character ∷ [])) ++ spelling_from 0 (drop (at + (1 + s.more)) text)
    ≡ before ++ ((s.character ∷ []) ++ spelling_from 0 (drop (at + (1 + s.more)) text)) =
    append_assoc before (s.character ∷ []) (spelling_from 0 (drop (at + (1 + s.more)) text)) in
    cc

spelling_stop : (c : ℕ) (cs : List ℕ) → spelled c cs ≡ None → spelling_from 0 (c ∷ cs) ≡ []
spelling_stop c cs is = rw (is, spelling_from) refl

-- the end of a spelling
pub spelling_ends : (at c : ℕ) (text : List ℕ) → at < length text → c ≡ get_or text at c
    → spelled c (take (length text - (at + 1)) (drop (at + 1) text)) ≡ None → spelling_from 0 (drop at text) ≡ []
spelling_ends at c text h read is =
    ap (spelling_from 0) (from_index text at c h read) ∙ spelling_stop c (take (length text - (at + 1)) (drop (at + 1) text)) is

-- the characters of a piece
pub word_is : (text : List ℕ) (at c more : ℕ) → at < length text → c ≡ get_or text at c
    → take (at + 1 + more - at) (drop at text) ≡ c ∷ take more (take (length text - (at + 1)) (drop (at + 1) text))
word_is text at c more h read =
    let rest : List ℕ = take (length text - (at + 1)) (drop (at + 1) text) in
    let count : at + 1 + more - at ≡ suc more = omega arith in
    ap (λ n. take n (drop at text)) count ∙ ap (take (suc more)) (from_index text at c h read)

-- what is left after a piece
pub beyond : (text : List ℕ) (at more : ℕ) → drop more (take (length text - (at + 1)) (drop (at + 1) text)) ≡ drop (at + 1 + more) text
beyond text at more = ap (drop more) (take_rest text (at + 1)) ∙ drop-drop more (at + 1) text
