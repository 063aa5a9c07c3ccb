-- A line is split at its last `=` in one way.
use Rattle.std.proofs.Common.{◌≡◌, ◌≢◌, ℕ, zero, suc, ◌+◌, ◌<◌, Bool, true, false, List, [], ◌∷◌, ◌++◌, ◌==◌, ◌&&◌, length, take, drop, get_or, refl, ap, sym, ◌∙◌, subst, arith}
use Rattle.std.specs.Char.{is_ascii_digit}
use Rattle.std.specs.List.{list_all}
use Rattle.std.proofs.lemmas.List.{drop_more, take-append-drop}
use Rattle.memchr.specs.Find.{NoneAfter, Nowhere, Passes, is_byte}

-- none of the bytes is `=`
abbrev pub Lacks : List ℕ → Type 0
Lacks [] = Unit {0}
Lacks (c ∷ cs) = (c ≢ 61) × Lacks cs

pub both_left : (a b : Bool) → (a && b) ≡ true → a ≡ true
both_left true b is = refl
both_left false b is = absurd cc

pub both_right : (a b : Bool) → (a && b) ≡ true → b ≡ true
both_right true b is = is
both_right false b is = absurd cc

no_digit : (c : ℕ) → is_ascii_digit c ≡ true → c ≢ 61
no_digit c digit same =
    let wrong : is_ascii_digit 61 ≡ true = subst (λ (d : ℕ). is_ascii_digit d ≡ true) same digit in
    absurd cc

-- digits have no `=`
pub digits_lack : (ds : List ℕ) → list_all is_ascii_digit ds ≡ true → Lacks ds
digits_lack [] all = tt
digits_lack (d ∷ ds) all =
    let first : is_ascii_digit d ≡ true = both_left (is_ascii_digit d) (list_all is_ascii_digit ds) all in
    let rest : list_all is_ascii_digit ds ≡ true = both_right (is_ascii_digit d) (list_all is_ascii_digit ds) all in
    (no_digit d first, digits_lack ds rest)

is_equals : (c : ℕ) → c ≡ 61 → (c == 61) ≡ true
is_equals c same = ap (λ (d : ℕ). d == 61) same

-- after the last `=` there is none
pub lacks_after : (k : ℕ) (line : List ℕ) → Nowhere (Passes (is_byte 61) line) k (length line) → Lacks (drop k line)
lacks_after zero [] none = tt
lacks_after (suc k) [] none = tt
lacks_after zero (c ∷ cs) none = (
  λ same. none 0 (omega arith) (omega arith) (is_equals c same),
  lacks_after zero cs (λ j low high passes. none (suc j) (omega arith) (omega arith) passes),
)
lacks_after (suc k) (c ∷ cs) none =
    lacks_after k cs (λ j low high passes. none (suc j) (omega arith) (omega arith) passes)

-- a line with `=` has it
pub has_equals : (text digits : List ℕ) → Lacks (text ++ 61 ∷ digits) → ⊥
has_equals [] digits lacks = lacks.0 refl
has_equals (c ∷ cs) digits lacks = has_equals cs digits lacks.1

heads : (c d : ℕ) (cs ds : List ℕ) → c ∷ cs ≡ d ∷ ds → c ≡ d
heads c d cs ds is = cc

tails : (c d : ℕ) (cs ds : List ℕ) → c ∷ cs ≡ d ∷ ds → cs ≡ ds
tails c d cs ds is = cc

-- What two ways to split a line have in common.
pub record SameSplit (text other digits more : List ℕ) : Type 0 where
  pub texts : text ≡ other
  pub ends : digits ≡ more

-- two splits at the last `=` are one
pub one_split : (text other digits more : List ℕ) → Lacks digits → Lacks more → text ++ 61 ∷ digits ≡ other ++ 61 ∷ more
    → SameSplit text other digits more
one_split [] [] digits more lacks other_lacks is = record { texts = refl; ends = tails 61 61 digits more is }
one_split [] (d ∷ ds) digits more lacks other_lacks is =
    absurd (has_equals ds more (subst Lacks (tails 61 d digits (ds ++ 61 ∷ more) is) lacks))
one_split (c ∷ cs) [] digits more lacks other_lacks is =
    absurd (has_equals cs digits (subst Lacks (sym (tails c 61 (cs ++ 61 ∷ digits) more is)) other_lacks))
one_split (c ∷ cs) (d ∷ ds) digits more lacks other_lacks is =
    let rest = one_split cs ds digits more lacks other_lacks (tails c d (cs ++ 61 ∷ digits) (ds ++ 61 ∷ more) is) in
    record {
      texts = ap (λ (e : ℕ). e ∷ cs) (heads c d (cs ++ 61 ∷ digits) (ds ++ 61 ∷ more) is) ∙ ap (λ (es : List ℕ). d ∷ es) rest.texts;
      ends = rest.ends;
    }

equals_is : (c : ℕ) → (c == 61) ≡ true → c ≡ 61
equals_is c passes = grind arith

-- a line at one of its `=`
pub split_at : (line : List ℕ) (k : ℕ) → k < length line → (get_or line k 0 == 61) ≡ true
    → line ≡ take k line ++ 61 ∷ drop (k + 1) line
split_at line k within passes =
    let here : drop k line ≡ 61 ∷ drop (k + 1) line =
    drop_more line k 0 within ∙ ap (λ (c : ℕ). c ∷ drop (k + 1) line) (equals_is (get_or line k 0) passes) in
    sym (take-append-drop k line) ∙ ap (λ (cs : List ℕ). take k line ++ cs) here

-- What is known of a line at its last `=`: what is before and after it.
pub record IsCut (line : List ℕ) (at : ℕ) : Type 0 where
  pub parts : line ≡ take at line ++ 61 ∷ drop (at + 1) line
  pub lacks : Lacks (drop (at + 1) line)

-- the last `=` cuts a line
pub last_cuts : (line : List ℕ) (at : ℕ) → NoneAfter (Passes (is_byte 61) line) 0 (length line) at → Passes (is_byte 61) line at
    → IsCut line at
last_cuts line at last here = record {
  parts = split_at line at last.high here;
  lacks = lacks_after (at + 1) line last.after;
}
