-- Where what is enclosed or nested ends, by steps of one character, and that this is where the relations say.
use Rattle.std.proofs.Common.{◌≡◌, ℕ, zero, suc, ◌+◌, ◌-◌, ◌≤◌, Bool, true, false, cond, List, [], ◌∷◌, Option, Some, None, length, drop, ◌==◌, ◌&&◌, ◌||◌, if◌then◌else◌, refl, ap, sym, subst, ◌∙◌, arith, add-zero, length-drop}
use Rattle.std.proofs.lemmas.Bool.Decides.{nat_tests}
use Rattle.std.proofs.lemmas.List.{drop-drop}
use Rattle.g4_chars.specs.declared.escape.Context.{Context}
use Rattle.g4_grammar_tokens.specs.Enclosed.{Encloses, at_close, one_more, unit_more}
use Rattle.g4_grammar_tokens.specs.Ends.{Finds}
use Rattle.g4_grammar_tokens.specs.Nesting.{Nests, closed, nested, passed, whole, closes, depth_after, passed_over}

-- how many characters there are up to the one that closes, that included, added to those taken before; the first are passed over
abbrev pub enclosed_from : Context → ℕ → ℕ → ℕ → List ℕ → Option ℕ
enclosed_from context close skip taken [] = None
enclosed_from context close (suc skip) taken (c ∷ cs) = enclosed_from context close skip (taken + 1) cs
enclosed_from context close zero taken (c ∷ cs) =
    if c == close then Some (taken + 1)
    else elim (unit_more context c cs) [ Some more ↦ enclosed_from context close more (taken + 1) cs | None ↦ None ]

-- how many characters there are up to the one that closes, that included: none where nothing does, or an escape is bad
abbrev pub enclosed : Context → ℕ → List ℕ → Option ℕ
enclosed context close text = enclosed_from context close 0 0 text

-- how many characters there are up to the one that closes, that included, added to those taken before, where as many are open
-- inside as the depth says; the first characters are passed over
abbrev pub nesting_end_from : ℕ → ℕ → ℕ → ℕ → ℕ → List ℕ → Option ℕ
nesting_end_from opening closing depth skip taken [] = None
nesting_end_from opening closing depth (suc skip) taken (c ∷ cs) = nesting_end_from opening closing depth skip (taken + 1) cs
nesting_end_from opening closing depth zero taken (c ∷ cs) =
    if closes closing depth c then Some (taken + 1)
    else nesting_end_from opening closing (depth_after opening closing depth c) (passed_over opening closing c cs) (taken + 1) cs

-- how many characters there are up to the one that closes, that included
abbrev pub nesting_end : ℕ → ℕ → List ℕ → Option ℕ
nesting_end opening closing text = nesting_end_from opening closing 0 0 0 text

somes : (n m : ℕ) → Some n ≡ Some m → n ≡ m
somes n m is = cc

none_some : (n : ℕ) → None ≡ Some n → ⊥
none_some n is = cc

add_suc : (n k : ℕ) → (n + 1) + k ≡ n + suc k
add_suc n k = omega arith

-- an end after characters that are passed over
pub enclosed_skip : (context : Context) (close k n : ℕ) (text : List ℕ)
    → enclosed_from context close k n text ≡ enclosed_from context close 0 (n + k) (drop k text)
enclosed_skip context close zero n text = rw add-zero refl
enclosed_skip context close (suc k) n [] = refl
enclosed_skip context close (suc k) n (c ∷ cs) =
    enclosed_skip context close k (n + 1) cs ∙ ap (λ m. enclosed_from context close 0 m (drop k cs)) (add_suc n k)

-- an end after characters that are passed over
pub nesting_skip : (opening closing depth k n : ℕ) (text : List ℕ)
    → nesting_end_from opening closing depth k n text ≡ nesting_end_from opening closing depth 0 (n + k) (drop k text)
nesting_skip opening closing depth zero n text = rw add-zero refl
nesting_skip opening closing depth (suc k) n [] = refl
nesting_skip opening closing depth (suc k) n (c ∷ cs) =
    nesting_skip opening closing depth k (n + 1) cs ∙ ap (λ m. nesting_end_from opening closing depth 0 m (drop k cs)) (add_suc n k)

-- the last number is the one before and a further count, of which this holds
record Ended (Holds : ℕ → Type 0) (before last : ℕ) : Type 0 where
  count : ℕ
  is : last ≡ before + count
  holds : Holds count

shorter : (n fuel : ℕ) (c : ℕ) (cs : List ℕ) → length (c ∷ cs) ≤ suc fuel → length (drop n cs) ≤ fuel
shorter n fuel c cs within = omega (arith, length-drop {A = ℕ})

enclosed_by_unit : (context : Context) (close t m c : ℕ) (cs : List ℕ) (found : Option ℕ)
    → ((more : ℕ) → enclosed_from context close 0 (t + 1 + more) (drop more cs) ≡ Some m
    → Ended (Encloses context close (drop more cs)) (t + 1 + more) m) →
    (c == close) ≡ false → unit_more context c cs ≡ found
    → elim found [ Some more ↦ enclosed_from context close more (t + 1) cs | None ↦ None ] ≡ Some m
    → Ended (Encloses context close (c ∷ cs)) t m
enclosed_by_unit context close t m c cs None onward other unit_is is = absurd (none_some m is)
enclosed_by_unit context close t m c cs (Some more) onward other unit_is is =
    let further = onward more (sym (enclosed_skip context close more (t + 1) cs) ∙ is) in
    record {
      count = 1 + more + further.count;
      is = omega (arith, further.is);
      holds = one_more c more further.count cs other unit_is further.holds;
    }

enclosed_by_close : (context : Context) (close t m c : ℕ) (cs : List ℕ) (closes_here : Bool)
    → ((more : ℕ) → enclosed_from context close 0 (t + 1 + more) (drop more cs) ≡ Some m
    → Ended (Encloses context close (drop more cs)) (t + 1 + more) m) →
    (c == close) ≡ closes_here → cond closes_here (Some (t + 1))
    (elim (unit_more context c cs) [ Some more ↦ enclosed_from context close more (t + 1) cs | None ↦ None ]) ≡ Some m
    → Ended (Encloses context close (c ∷ cs)) t m
enclosed_by_close context close t m c cs true onward closes_is is =
    record { count = 1; is = sym (somes (t + 1) m is); holds = at_close c cs closes_is }
enclosed_by_close context close t m c cs false onward closes_is is =
    enclosed_by_unit context close t m c cs (unit_more context c cs) onward closes_is refl is

-- where steps end, what is enclosed ends
enclosed_ended : (fuel : ℕ) (context : Context) (close t m : ℕ) (text : List ℕ) → length text ≤ fuel
    → enclosed_from context close 0 t text ≡ Some m → Ended (Encloses context close text) t m
enclosed_ended fuel context close t m [] within is = absurd (none_some m is)
enclosed_ended zero context close t m (c ∷ cs) within is = absurd (omega arith)
enclosed_ended (suc fuel) context close t m (c ∷ cs) within is =
    enclosed_by_close context close t m c cs (c == close)
    (λ more. enclosed_ended fuel context close (t + 1 + more) m (drop more cs) (shorter more fuel c cs within)) refl is

-- where what is enclosed ends, steps do
enclosed_steps : (context : Context) (close t n : ℕ) (text : List ℕ) → Encloses context close text n
    → enclosed_from context close 0 t text ≡ Some (t + n)
enclosed_steps context close t _ _ (at_close c cs closes_is) = rw (closes_is, enclosed_from) refl
enclosed_steps context close t _ _ (one_more c more n cs other unit_is further) =
    let step : enclosed_from context close 0 t (c ∷ cs) ≡ enclosed_from context close more (t + 1) cs =
    rw (other, enclosed_from) (rw unit_is refl) in
    let same : t + 1 + more + n ≡ t + (1 + more + n) = omega arith in
    step ∙ enclosed_skip context close more (t + 1) cs ∙ enclosed_steps context close (t + 1 + more) n (drop more cs) further ∙ ap Some same

-- the steps find where what is enclosed ends
pub find_enclosed : (context : Context) (close : ℕ) (text : List ℕ) (found : Option ℕ) → enclosed context close text ≡ found
    → Finds (Encloses context close text) found
find_enclosed context close text None is = λ n ends. none_some (0 + n) (sym is ∙ enclosed_steps context close 0 n text ends)
find_enclosed context close text (Some m) is =
    let ended = enclosed_ended (length text) context close 0 m text (omega arith) is in
    let same : ended.count ≡ m = omega (arith, ended.is) in
    subst (Encloses context close text) same ended.holds

-- this many brackets that are open inside close one after another, and then the outer one
data Closings (opening closing : ℕ) : ℕ → List ℕ → ℕ → Type 0 where
  last_one : (n : ℕ) (text : List ℕ) → Nests opening closing text n → Closings opening closing zero text n
  and_more : (depth n m : ℕ) (text : List ℕ) → Nests opening closing text n → Closings opening closing depth (drop n text) m
      → Closings opening closing (suc depth) text (n + m)

extended : (opening closing depth j k : ℕ) (text : List ℕ)
    → ((n : ℕ) → Nests opening closing (drop j text) n → Nests opening closing text (j + n))
    → Closings opening closing depth (drop j text) k → Closings opening closing depth text (j + k)
extended opening closing _ j _ text further (last_one n _ nests) = last_one (j + n) text (further n nests)
extended opening closing _ j _ text further (and_more depth n m _ nests rest) =
    let moved : Closings opening closing depth (drop (j + n) text) m =
    subst (λ (cs : List ℕ). Closings opening closing depth cs m) (drop-drop n j text) rest in
    let sum : j + n + m ≡ j + (n + m) = omega arith in
    subst (Closings opening closing (suc depth) text) sum (and_more depth (j + n) m text (further n nests) moved)

as_nested : (opening closing c n a : ℕ) (cs : List ℕ) → Nests opening closing (c ∷ cs) (1 + n + a)
    → Nests opening closing (c ∷ cs) (suc n + a)
as_nested opening closing c n a cs nests =
    let same : 1 + n + a ≡ suc n + a = omega arith in
    subst (Nests opening closing (c ∷ cs)) same nests

past_nested : (opening closing depth k c : ℕ) (cs : List ℕ) → (c == closing) ≡ false → (c == opening) ≡ true
    → Closings opening closing (suc depth) cs k → Closings opening closing depth (c ∷ cs) (1 + k)
past_nested opening closing depth _ c cs other opens (and_more _ n m _ nests rest) =
    let sum : suc n + m ≡ 1 + (n + m) = omega arith in
    subst (Closings opening closing depth (c ∷ cs)) sum
    (extended opening closing depth (suc n) m (c ∷ cs)
    (λ (a : ℕ) (more : Nests opening closing (drop n cs) a).
    as_nested opening closing c n a cs (nested c n a cs other opens nests more)) rest)

past_whole : (opening closing depth k c : ℕ) (cs : List ℕ) → (c == closing) ≡ false → (c == opening) ≡ false
    → Closings opening closing depth (drop (whole c cs) cs) k → Closings opening closing depth (c ∷ cs) (1 + whole c cs + k)
past_whole opening closing depth k c cs other plain rest =
    let sum : suc (whole c cs) + k ≡ 1 + whole c cs + k = omega arith in
    subst (Closings opening closing depth (c ∷ cs)) sum
    (extended opening closing depth (suc (whole c cs)) k (c ∷ cs)
    (λ (a : ℕ) (more : Nests opening closing (drop (whole c cs) cs) a).
    as_nested opening closing c (whole c cs) a cs (passed c a cs other plain more)) rest)

left_out : (b : Bool) (x y : Option ℕ) → b ≡ false → cond b x y ≡ y
left_out b x y is = rw is refl

no_zero : (n : ℕ) → (suc n == 0) ≡ false
no_zero n = grind (arith, nat_tests)

nesting_by_signs : (fuel opening closing depth t m c : ℕ) (cs : List ℕ) (closes_here opens_here : Bool)
    → ((d s : ℕ) (rest : List ℕ) → length rest ≤ fuel → nesting_end_from opening closing d 0 s rest ≡ Some m
    → Ended (Closings opening closing d rest) s m) →
    length (c ∷ cs) ≤ suc fuel → (c == closing) ≡ closes_here → (c == opening) ≡ opens_here →
    cond (closes_here && (depth == 0)) (Some (t + 1))
    (nesting_end_from opening closing (cond closes_here (depth - 1) (cond opens_here (depth + 1) depth))
    (cond (closes_here || opens_here) 0 (whole c cs)) (t + 1) cs) ≡ Some m →
    Ended (Closings opening closing depth (c ∷ cs)) t m
nesting_by_signs fuel opening closing zero t m c cs true opens_here onward within closes_is opens_is is =
    record { count = 1; is = sym (somes (t + 1) m is); holds = last_one 1 (c ∷ cs) (closed c cs closes_is) }
nesting_by_signs fuel opening closing (suc depth) t m c cs true opens_here onward within closes_is opens_is is =
    let lower : suc depth - 1 ≡ depth = omega arith in
    let passed_by = left_out (suc depth == 0) (Some (t + 1)) (nesting_end_from opening closing (suc depth - 1) 0 (t + 1) cs)
    (no_zero depth) in
    let moved : nesting_end_from opening closing depth 0 (t + 1) cs ≡ Some m =
    sym (ap (λ d. nesting_end_from opening closing d 0 (t + 1) cs) lower) ∙ sym passed_by ∙ is in
    let further = onward depth (t + 1) cs (omega arith) moved in
    record {
      count = 1 + further.count;
      is = omega (arith, further.is);
      holds = and_more depth 1 further.count (c ∷ cs) (closed c cs closes_is) further.holds;
    }
nesting_by_signs fuel opening closing depth t m c cs false true onward within closes_is opens_is is =
    let higher : depth + 1 ≡ suc depth = omega arith in
    let moved : nesting_end_from opening closing (suc depth) 0 (t + 1) cs ≡ Some m =
    sym (ap (λ d. nesting_end_from opening closing d 0 (t + 1) cs) higher) ∙ is in
    let further = onward (suc depth) (t + 1) cs (omega arith) moved in
    record {
      count = 1 + further.count;
      is = omega (arith, further.is);
      holds = past_nested opening closing depth further.count c cs closes_is opens_is further.holds;
    }
nesting_by_signs fuel opening closing depth t m c cs false false onward within closes_is opens_is is =
    let skipped = nesting_skip opening closing depth (whole c cs) (t + 1) cs in
    let further = onward depth (t + 1 + whole c cs) (drop (whole c cs) cs) (shorter (whole c cs) fuel c cs within) (sym skipped ∙ is) in
    record {
      count = 1 + whole c cs + further.count;
      is = omega (arith, further.is);
      holds = past_whole opening closing depth further.count c cs closes_is opens_is further.holds;
    }

-- where steps end, what is nested ends
nesting_ended : (fuel opening closing depth t m : ℕ) (text : List ℕ) → length text ≤ fuel
    → nesting_end_from opening closing depth 0 t text ≡ Some m → Ended (Closings opening closing depth text) t m
nesting_ended fuel opening closing depth t m [] within is = absurd (none_some m is)
nesting_ended zero opening closing depth t m (c ∷ cs) within is = absurd (omega arith)
nesting_ended (suc fuel) opening closing depth t m (c ∷ cs) within is =
    nesting_by_signs fuel opening closing depth t m c cs (c == closing) (c == opening)
    (λ d s rest. nesting_ended fuel opening closing d s m rest) within refl refl is

step_closed : (opening closing depth t c : ℕ) (cs : List ℕ) → (c == closing) ≡ true
    → nesting_end_from opening closing (suc depth) 0 t (c ∷ cs) ≡ nesting_end_from opening closing depth 0 (t + 1) cs
step_closed opening closing depth t c cs closes_is =
    let lower : suc depth - 1 ≡ depth = omega arith in
    let step : nesting_end_from opening closing (suc depth) 0 t (c ∷ cs)
    ≡ nesting_end_from opening closing (suc depth - 1) 0 (t + 1) cs =
    rw (closes_is, nesting_end_from) (left_out (suc depth == 0) (Some (t + 1))
    (nesting_end_from opening closing (suc depth - 1) 0 (t + 1) cs) (no_zero depth)) in
    step ∙ ap (λ d. nesting_end_from opening closing d 0 (t + 1) cs) lower

step_nested : (opening closing depth t c : ℕ) (cs : List ℕ) → (c == closing) ≡ false → (c == opening) ≡ true
    → nesting_end_from opening closing depth 0 t (c ∷ cs) ≡ nesting_end_from opening closing (suc depth) 0 (t + 1) cs
step_nested opening closing depth t c cs other opens =
    let higher : depth + 1 ≡ suc depth = omega arith in
    let step : nesting_end_from opening closing depth 0 t (c ∷ cs) ≡ nesting_end_from opening closing (depth + 1) 0 (t + 1) cs =
    rw (other, nesting_end_from) (rw opens refl) in
    step ∙ ap (λ d. nesting_end_from opening closing d 0 (t + 1) cs) higher

step_passed : (opening closing depth t c : ℕ) (cs : List ℕ) → (c == closing) ≡ false → (c == opening) ≡ false
    → nesting_end_from opening closing depth 0 t (c ∷ cs)
    ≡ nesting_end_from opening closing depth 0 (t + 1 + whole c cs) (drop (whole c cs) cs)
step_passed opening closing depth t c cs other plain =
    let step : nesting_end_from opening closing depth 0 t (c ∷ cs) ≡ nesting_end_from opening closing depth (whole c cs) (t + 1) cs =
    rw (other, nesting_end_from) (rw plain refl) in
    step ∙ nesting_skip opening closing depth (whole c cs) (t + 1) cs

-- steps go over what is nested
nested_steps : (opening closing depth t n : ℕ) (text : List ℕ) → Nests opening closing text n
    → nesting_end_from opening closing (suc depth) 0 t text ≡ nesting_end_from opening closing depth 0 (t + n) (drop n text)
nested_steps opening closing depth t _ _ (closed c cs closes_is) = step_closed opening closing depth t c cs closes_is
nested_steps opening closing depth t _ _ (nested c n m cs other opens inner rest) =
    let same : t + 1 + n + m ≡ t + (1 + n + m) = omega arith in
    let count : suc (n + m) ≡ 1 + n + m = omega arith in
    let dropped : drop m (drop n cs) ≡ drop (1 + n + m) (c ∷ cs) = drop-drop m n cs ∙ ap (λ i. drop i (c ∷ cs)) count in
    step_nested opening closing (suc depth) t c cs other opens ∙ nested_steps opening closing (suc depth) (t + 1) n cs inner
    ∙ nested_steps opening closing depth (t + 1 + n) m (drop n cs) rest
    ∙ ap (λ i. nesting_end_from opening closing depth 0 i (drop m (drop n cs))) same
    ∙ ap (nesting_end_from opening closing depth 0 (t + (1 + n + m))) dropped
nested_steps opening closing depth t _ _ (passed c n cs other plain rest) =
    let more : ℕ = whole c cs in
    let same : t + 1 + more + n ≡ t + (1 + more + n) = omega arith in
    let count : suc (more + n) ≡ 1 + more + n = omega arith in
    let dropped : drop n (drop more cs) ≡ drop (1 + more + n) (c ∷ cs) = drop-drop n more cs ∙ ap (λ i. drop i (c ∷ cs)) count in
    step_passed opening closing (suc depth) t c cs other plain
    ∙ nested_steps opening closing depth (t + 1 + more) n (drop more cs) rest
    ∙ ap (λ i. nesting_end_from opening closing depth 0 i (drop n (drop more cs))) same
    ∙ ap (nesting_end_from opening closing depth 0 (t + (1 + more + n))) dropped

-- where what is nested ends, steps do
nesting_steps : (opening closing t n : ℕ) (text : List ℕ) → Nests opening closing text n
    → nesting_end_from opening closing 0 0 t text ≡ Some (t + n)
nesting_steps opening closing t _ _ (closed c cs closes_is) = rw (closes_is, nesting_end_from) refl
nesting_steps opening closing t _ _ (nested c n m cs other opens inner rest) =
    let same : t + 1 + n + m ≡ t + (1 + n + m) = omega arith in
    step_nested opening closing 0 t c cs other opens ∙ nested_steps opening closing 0 (t + 1) n cs inner
    ∙ nesting_steps opening closing (t + 1 + n) m (drop n cs) rest ∙ ap Some same
nesting_steps opening closing t _ _ (passed c n cs other plain rest) =
    let same : t + 1 + whole c cs + n ≡ t + (1 + whole c cs + n) = omega arith in
    step_passed opening closing 0 t c cs other plain
    ∙ nesting_steps opening closing (t + 1 + whole c cs) n (drop (whole c cs) cs) rest ∙ ap Some same

nests_once : (opening closing m : ℕ) (text : List ℕ) → Closings opening closing zero text m → Nests opening closing text m
nests_once opening closing _ text (last_one n _ nests) = nests

-- the steps find where what is nested ends
pub find_nesting : (opening closing : ℕ) (text : List ℕ) (found : Option ℕ) → nesting_end opening closing text ≡ found
    → Finds (Nests opening closing text) found
find_nesting opening closing text None is = λ n nests. none_some (0 + n) (sym is ∙ nesting_steps opening closing 0 n text nests)
find_nesting opening closing text (Some m) is =
    let ended = nesting_ended (length text) opening closing 0 0 m text (omega arith) is in
    let same : ended.count ≡ m = omega (arith, ended.is) in
    subst (Nests opening closing text) same (nests_once opening closing ended.count text ended.holds)

-- what is enclosed has one end
pub one_enclosed : (context : Context) (close n m : ℕ) (text : List ℕ) → Encloses context close text n → Encloses context close text m
    → n ≡ m
one_enclosed context close n m text first second =
    let same = somes (0 + n) (0 + m) (sym (enclosed_steps context close 0 n text first) ∙ enclosed_steps context close 0 m text second) in
    omega (arith, same)

-- what is nested has one end
pub one_nesting : (opening closing n m : ℕ) (text : List ℕ) → Nests opening closing text n → Nests opening closing text m → n ≡ m
one_nesting opening closing n m text first second =
    let same = somes (0 + n) (0 + m) (sym (nesting_steps opening closing 0 n text first) ∙ nesting_steps opening closing 0 m text second) in
    omega (arith, same)
