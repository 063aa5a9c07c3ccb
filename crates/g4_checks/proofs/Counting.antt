-- Labels that are in two rules, counted a label at a time.
use Rattle.std.proofs.Common.{◌≡◌, ℕ, ◌+◌, List, [], ◌∷◌, ◌++◌, Bool, true, false, cond, ◌&&◌, ◌||◌, refl, sym, ap, ◌∙◌, arith}
use Rattle.std.specs.Prelude.{nat_le, count_by}
use Rattle.std.proofs.lemmas.List.Sums.{sum_by-append}
use Rattle.std.specs.Str.{bytes_eq}
use Rattle.std.proofs.lemmas.Bool.Decides.{nat_tests}
use Rattle.g4_source.specs.declared.atom.Atom.{Atom}
use Rattle.g4_source.specs.declared.rule.ParserRule.{ParserRule}
use Rattle.g4_checks.specs.Known.{Counting, Counts}
use Rattle.g4_checks.specs.Labels.{has_label}
use Rattle.g4_checks.specs.Names.{is_one_of}
use Rattle.g4_checks.proofs.Sets.{bytes_same}

-- whether a label is there, at a text that it is
pub at_label : (names : List (List ℕ)) (n label : List ℕ) (there : Bool) → is_one_of names label ≡ there
    → (is_one_of names n && bytes_eq n label) ≡ (there && bytes_eq n label)
at_label names n label there is = by (bytes_eq n label) refl
  where
    right : (a : Bool) → (a && false) ≡ false
    right true = refl
    right false = refl

    by : (same : Bool) → bytes_eq n label ≡ same → (is_one_of names n && same) ≡ (there && same)
    by true e = ap (λ (b : Bool). b && true) (ap (is_one_of names) (bytes_same n label e) ∙ is)
    by false e = right (is_one_of names n) ∙ sym (right there)

-- a label that is new in its rule, and in all
pub first_time : (names : List (List ℕ)) (n label : List ℕ) (twice : Bool) → is_one_of names label ≡ false
    → twice ≡ (twice || (is_one_of names n && bytes_eq n label))
first_time names n label twice is = sym (ap (λ (b : Bool). twice || b) (at_label names n label false is) ∙ or_false twice)
  where
    or_false : (a : Bool) → (a || false) ≡ a
    or_false true = refl
    or_false false = refl

-- a label that is new in its rule, and not in all
pub next_time : (names : List (List ℕ)) (n label : List ℕ) (twice : Bool) → is_one_of names label ≡ true
    → (twice || bytes_eq n label) ≡ (twice || (is_one_of names n && bytes_eq n label))
next_time names n label twice is = sym (ap (λ (b : Bool). twice || b) (at_label names n label true is))

-- or in another order
once_more : (b o e : Bool) → ((b || o) || e) ≡ (b || (o || e))
once_more true o e = refl
once_more false o e = refl

again_more : (t b o e : Bool) → (o && e) ≡ false → ((t || (b && o)) || ((b || o) && e)) ≡ (t || (b && (o || e)))
again_more true b o e none = refl
again_more false true true e none = refl
again_more false true false e none = refl
again_more false false o e none = none

covered : (o e : Bool) → (o && e) ≡ e → o ≡ (o || e)
covered true e all = refl
covered false e all = all

module _ (before twice own own' once again once' again' : List (List ℕ)) (label : List ℕ) (h : Counting before twice own once again)
    (added : (n : List ℕ) → is_one_of own' n ≡ (is_one_of own n || bytes_eq n label)) where
  -- a label that is new in its rule
  pub counting_new : is_one_of own label ≡ false → ((n : List ℕ) → is_one_of once' n ≡ (is_one_of once n || bytes_eq n label))
      → ((n : List ℕ) → is_one_of again' n ≡ (is_one_of again n || (is_one_of once n && bytes_eq n label))) →
      Counting before twice own' once' again'
  counting_new new one two = record {
    in_one = λ n.
        one n ∙ (ap (λ (b : Bool). b || bytes_eq n label) (h.in_one n)
        ∙ (once_more (is_one_of before n) (is_one_of own n) (bytes_eq n label)
        ∙ ap (λ (b : Bool). is_one_of before n || b) (sym (added n))));
    in_two = λ n.
        two n ∙ (ap (λ (b : Bool). b || (is_one_of once n && bytes_eq n label)) (h.in_two n)
        ∙ (ap (λ (b : Bool). (is_one_of twice n || (is_one_of before n && is_one_of own n)) || (b && bytes_eq n label)) (h.in_one n)
        ∙ (again_more (is_one_of twice n) (is_one_of before n) (is_one_of own n) (bytes_eq n label) (at_label own n label false new)
        ∙ ap (λ (b : Bool). is_one_of twice n || (is_one_of before n && b)) (sym (added n)))));
  }

  -- a label that is not
  pub counting_old : is_one_of own label ≡ true → Counting before twice own' once again
  counting_old old = record {
    in_one = λ n. h.in_one n ∙ ap (λ (b : Bool). is_one_of before n || b)
        (covered (is_one_of own n) (bytes_eq n label) (at_label own n label true old) ∙ sym (added n));
    in_two = λ n. h.in_two n ∙ ap (λ (b : Bool). is_one_of twice n || (is_one_of before n && b))
        (covered (is_one_of own n) (bytes_eq n label) (at_label own n label true old) ∙ sym (added n));
  }

-- before the first label of a rule
pub counting_none : (once again : List (List ℕ)) → Counting once again [] once again
counting_none once again = record {
  in_one = λ n. or_none (is_one_of once n);
  in_two = λ n. or_and_none (is_one_of again n) (is_one_of once n);
}
  where
    or_none : (a : Bool) → a ≡ (a || false)
    or_none true = refl
    or_none false = refl

    or_and_none : (a b : Bool) → a ≡ (a || (b && false))
    or_and_none true b = refl
    or_and_none false true = refl
    or_and_none false false = refl

-- the count with one rule more
count_more : {X : Type 0} (p : X → Bool) (xs : List X) (x : X) → count_by p (xs ++ x ∷ []) ≡ count_by p xs + cond (p x) 1 0
count_more p xs x = sum_by-append (λ (z : _). cond (p z) 1 0) xs (x ∷ []) ∙ ap (λ (k : ℕ). count_by p xs + k) (omega arith)

one_more : (k : ℕ) (b : Bool) → (nat_le 1 k || b) ≡ nat_le 1 (k + cond b 1 0)
one_more k true = grind (arith, nat_tests)
one_more k false = grind (arith, nat_tests)

two_more : (k : ℕ) (b : Bool) → (nat_le 2 k || (nat_le 1 k && b)) ≡ nat_le 2 (k + cond b 1 0)
two_more k true = grind (arith, nat_tests)
two_more k false = grind (arith, nat_tests)

-- the labels of one rule more
pub counts_more : (rules : List (ParserRule Atom)) (rule : ParserRule Atom) (before twice own once again : List (List ℕ))
    → Counts rules before twice → Counting before twice own once again → ((n : List ℕ) → is_one_of own n ≡ has_label n rule)
    → Counts (rules ++ rule ∷ []) once again
counts_more rules rule before twice own once again counts counting own_is = record {
  in_one = λ n.
      counting.in_one n ∙ (ap (λ (b : Bool). b || is_one_of own n) (counts.in_one n)
      ∙ (ap (λ (b : Bool). nat_le 1 (count_by (has_label n) rules) || b) (own_is n)
      ∙ (one_more (count_by (has_label n) rules) (has_label n rule) ∙ ap (nat_le 1) (sym (count_more (has_label n) rules rule)))));
  in_two = λ n.
      counting.in_two n ∙ (ap (λ (b : Bool). b || (is_one_of before n && is_one_of own n)) (counts.in_two n)
      ∙ (ap (λ (b : Bool). nat_le 2 (count_by (has_label n) rules) || (b && is_one_of own n)) (counts.in_one n)
      ∙ (ap (λ (b : Bool). nat_le 2 (count_by (has_label n) rules) || (nat_le 1 (count_by (has_label n) rules) && b)) (own_is n)
      ∙ (two_more (count_by (has_label n) rules) (has_label n rule) ∙ ap (nat_le 2) (sym (count_more (has_label n) rules rule))))));
}

-- no rules
pub counts_none : (once again : List (List ℕ)) → once ≡ [] → again ≡ [] → Counts [] once again
counts_none once again no_once no_again = record {
  in_one = λ n. ap (λ (names : List (List ℕ)). is_one_of names n) no_once;
  in_two = λ n. ap (λ (names : List (List ℕ)). is_one_of names n) no_again;
}
