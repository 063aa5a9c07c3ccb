-- Quotes that don't close on their line.
use Rattle.std.proofs.Common.{◌≡◌, ℕ, zero, suc, ◌+◌, ◌<◌, Bool, true, false, cond, List, [], ◌∷◌, Option, Some, None, option_map, drop, get_or, length, refl, arith, eqb, not, ◌-◌, ◌≤◌, ◌⊎◌, ⊎_elim, take, sym, ap, ◌∙◌, ◌==◌, if◌then◌else◌}
use Rattle.std.proofs.lemmas.List.{take_rest, drop-drop, get_or-drop}
use Rattle.g4_grammar_tokens.specs.declared.quote.Unclosed.{Unclosed}
use Rattle.std.specs.List.{prefix_len}
use Rattle.std.proofs.lemmas.Bool.Decides.{nat_tests}
use Rattle.g4_grammar_tokens.specs.Characters.{is_in_line}
use Rattle.g4_grammar_tokens.specs.Nesting.{quote_end, escaped_quote_end, IsUnclosed, AreUnclosed}
use Rattle.g4_grammar_tokens.proofs.Counts.{more_by, one_more, none_more}

-- how many characters there are up to the quote that closes on this line, that included, added to those taken before; the first
-- is escaped where a backslash comes before it
abbrev pub quote_end_from : ℕ → Bool → ℕ → List ℕ → Option ℕ
quote_end_from quote escaped taken [] = None
quote_end_from quote escaped taken (c ∷ cs) =
    if c == 10 then None
    else (if escaped then quote_end_from quote false (taken + 1) cs
    else (if c == quote then Some (taken + 1) else quote_end_from quote (c == 92) (taken + 1) cs))

by_signs : (newline closing backslash : Bool) (n : ℕ) (a b a' b' : Option ℕ) → a ≡ more_by (n + 1) a' → b ≡ more_by (n + 1) b'
    → cond newline None (cond closing (Some (n + 1)) (cond backslash a b))
    ≡ more_by n (cond newline None (cond closing (Some 1) (option_map suc (cond backslash a' b'))))
by_signs true closing backslash n a b a' b' f g = refl
by_signs false true backslash n a b a' b' f g = refl
by_signs false false true n a b a' b' f g = f ∙ one_more n a'
by_signs false false false n a b a' b' f g = g ∙ one_more n b'

by_newline : (newline : Bool) (n : ℕ) (a a' : Option ℕ) → a ≡ more_by (n + 1) a'
    → cond newline None a ≡ more_by n (cond newline None (option_map suc a'))
by_newline true n a a' f = refl
by_newline false n a a' f = f ∙ one_more n a'

by_backslash : (q n : ℕ) (backslash : Bool) (cs : List ℕ)
    → quote_end_from q backslash n cs ≡ cond backslash (quote_end_from q true n cs) (quote_end_from q false n cs)
by_backslash q n true cs = refl
by_backslash q n false cs = refl

mutual
  counted : (q n : ℕ) (xs : List ℕ) → quote_end_from q false n xs ≡ more_by n (quote_end q xs)
  counted q n [] = refl
  counted q n (c ∷ cs) =
      ap (λ (o : Option ℕ). cond (eqb c 10) None (cond (eqb c q) (Some (n + 1)) o)) (by_backslash q (n + 1) (eqb c 92) cs)
      ∙ by_signs (eqb c 10) (eqb c q) (eqb c 92) n (quote_end_from q true (n + 1) cs) (quote_end_from q false (n + 1) cs)
      (escaped_quote_end q cs) (quote_end q cs) (counted_escaped q (n + 1) cs) (counted q (n + 1) cs)

  counted_escaped : (q n : ℕ) (xs : List ℕ) → quote_end_from q true n xs ≡ more_by n (escaped_quote_end q xs)
  counted_escaped q n [] = refl
  counted_escaped q n (c ∷ cs) = by_newline (eqb c 10) n (quote_end_from q false (n + 1) cs) (quote_end q cs) (counted q (n + 1) cs)

-- the steps find the quote that closes
pub steps_find : (q : ℕ) (xs : List ℕ) → quote_end_from q false 0 xs ≡ quote_end q xs
steps_find q xs = counted q 0 xs ∙ none_more (quote_end q xs)

shift_step : (newline escaped closing : Bool) (n m : ℕ) (a b a' b' : Option ℕ) → (a ≡ None → a' ≡ None) → (b ≡ None → b' ≡ None)
    → cond newline None (cond escaped a (cond closing (Some n) b)) ≡ None
    → cond newline None (cond escaped a' (cond closing (Some m) b')) ≡ None
shift_step true escaped closing n m a b a' b' f g h = refl
shift_step false true closing n m a b a' b' f g h = f h
shift_step false false true n m a b a' b' f g h = cc
shift_step false false false n m a b a' b' f g h = g h

-- a quote that doesn't close doesn't, however many characters are counted before it
pub none_shift : (q : ℕ) (e : Bool) (n m : ℕ) (xs : List ℕ) → quote_end_from q e n xs ≡ None → quote_end_from q e m xs ≡ None
none_shift q e n m [] h = refl
none_shift q e n m (c ∷ cs) h =
    shift_step (eqb c 10) e (eqb c q) (n + 1) (m + 1) (quote_end_from q false (n + 1) cs) (quote_end_from q (eqb c 92) (n + 1) cs)
    (quote_end_from q false (m + 1) cs) (quote_end_from q (eqb c 92) (m + 1) cs) (none_shift q false (n + 1) (m + 1) cs)
    (none_shift q (eqb c 92) (n + 1) (m + 1) cs) h

stays_step : (newline escaped closing : Bool) (n : ℕ) (a b : Option ℕ) (R : Type 0) → (newline ≡ true → R) → (a ≡ None → R)
    → (closing ≡ false → b ≡ None → R) → cond newline None (cond escaped a (cond closing (Some n) b)) ≡ None → R
stays_step true escaped closing n a b R i f g h = i refl
stays_step false true closing n a b R i f g h = f h
stays_step false false true n a b R i f g h = absurd cc
stays_step false false false n a b R i f g h = g refl h

in_line : (c : ℕ) (cs : List ℕ) (j : ℕ) → eqb c 10 ≡ true → j < prefix_len is_in_line (c ∷ cs) → ⊥
in_line c cs j newline h = let none : prefix_len is_in_line (c ∷ cs) ≡ 0 = rw newline refl in omega arith

further_in_line : (b : Bool) (n j : ℕ) → suc j < cond (not b) (1 + n) 0 → j < n
further_in_line true n j h = omega arith
further_in_line false n j h = omega arith

-- after a quote that doesn't close on its line, no such quote does on that line
pub none_stays : (q : ℕ) (e : Bool) (n : ℕ) (xs : List ℕ) (j : ℕ) → quote_end_from q e n xs ≡ None → j < prefix_len is_in_line xs
    → get_or xs j 0 ≡ q → quote_end_from q false 0 (drop (suc j) xs) ≡ None
none_stays q e n [] j h within read = refl
none_stays q e n (c ∷ cs) zero h within read =
    stays_step (eqb c 10) e (eqb c q) (n + 1) (quote_end_from q false (n + 1) cs) (quote_end_from q (eqb c 92) (n + 1) cs)
    (quote_end_from q false 0 cs ≡ None) (λ newline. absurd (in_line c cs 0 newline within))
    (λ none. none_shift q false (n + 1) 0 cs none) (λ other _. absurd (grind (arith, nat_tests))) h
none_stays q e n (c ∷ cs) (suc j) h within read =
    stays_step (eqb c 10) e (eqb c q) (n + 1) (quote_end_from q false (n + 1) cs) (quote_end_from q (eqb c 92) (n + 1) cs)
    (quote_end_from q false 0 (drop (suc j) cs) ≡ None) (λ newline. absurd (in_line c cs (suc j) newline within))
    (λ none. none_stays q false (n + 1) cs j none (further_in_line (eqb c 10) (prefix_len is_in_line cs) j within) read)
    (λ other none. none_stays q (eqb c 92) (n + 1) cs j none (further_in_line (eqb c 10) (prefix_len is_in_line cs) j within) read) h

same_or_later : (at j : ℕ) → at ≤ j → (j ≡ at) ⊎ (at < j)
same_or_later at j h = grind arith

-- a quote at the index that is not closed, and those after it on its line
pub unclosed_line : (q : ℕ) (text : List ℕ) (at count : ℕ) → quote_end q (take (length text - (at + 1)) (drop (at + 1) text)) ≡ None
    → count ≡ prefix_len is_in_line (take (length text - (at + 1)) (drop (at + 1) text)) → IsUnclosed q text at (at + 1 + count)
unclosed_line q text at count none count_is j from below read =
    let rest : take (length text - (at + 1)) (drop (at + 1) text) ≡ drop (at + 1) text = take_rest text (at + 1) in
    let none_here : quote_end q (drop (at + 1) text) ≡ None = sym (ap (quote_end q) rest) ∙ none in
    let count_here : count ≡ prefix_len is_in_line (drop (at + 1) text) = count_is ∙ ap (prefix_len is_in_line) rest in
    ⊎_elim
    (λ (same : j ≡ at). let here : j + 1 ≡ at + 1 = omega arith in ap (λ i. quote_end q (drop i text)) here ∙ none_here)
    (λ (later : at < j).
    let k : ℕ = j - (at + 1) in
    let index : at + 1 + k ≡ j = omega arith in
    let next : at + 1 + suc k ≡ j + 1 = omega arith in
    let read_here : get_or (drop (at + 1) text) k 0 ≡ q = get_or-drop (at + 1) text k 0 ∙ ap (λ i. get_or text i 0) index ∙ read in
    let within : k < prefix_len is_in_line (drop (at + 1) text) = omega (arith, count_here) in
    ap (λ i. quote_end q (drop i text)) (sym next) ∙ sym (ap (quote_end q) (drop-drop (suc k) (at + 1) text))
    ∙ sym (steps_find q (drop (suc k) (drop (at + 1) text)))
    ∙ none_stays q false 0 (drop (at + 1) text) k (steps_find q (drop (at + 1) text) ∙ none_here) within read_here)
    (same_or_later at j from)

-- quotes that are not closed, from a later index on
pub unclosed_later : (text : List ℕ) (at next : ℕ) (unclosed : Unclosed) → at ≤ next → AreUnclosed text at unclosed
    → AreUnclosed text next unclosed
unclosed_later text at next unclosed later known =
    record { single_ones = λ j from. known.single_ones j (omega arith); double_ones = λ j from. known.double_ones j (omega arith) }
