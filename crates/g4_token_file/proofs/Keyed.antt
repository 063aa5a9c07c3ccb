-- The numbers of keys in a table with one entry more.
use Rattle.std.proofs.Common.{◌≡◌, ℕ, ◌≤◌, List, [], ◌∷◌, ◌++◌, Bool, true, false, cond, Option, Some, None, max, refl, sym, ap, ◌∙◌, subst, arith}
use Rattle.std.proofs.lemmas.Slice.Eq.{bytes_eq-Decides}
use Rattle.g4_tokens.specs.declared.symbol.TheConstants.{MOST_TYPES}
use Rattle.g4_token_file.specs.declared.entry.TokenKey.{TokenKey}
use Rattle.g4_token_file.specs.declared.entry.TokenKey.TheVariants.{Name, Literal}
use Rattle.g4_token_file.specs.declared.entry.TokenEntry.{TokenEntry}
use Rattle.g4_token_file.specs.declared.numbers.Numbers.{Numbers}
use Rattle.g4_token_file.specs.Indexed.{AreNumbersOf, IsIndexed, numbered}
use Rattle.g4_token_file.specs.Keys.{greatest_number, is_key, number_of}

-- keys that are equal are one
pub key_same : (a b : TokenKey) → is_key a b ≡ true → a ≡ b
key_same (Name a) (Name b) e = ap Name ((bytes_eq-Decides a b).0 e)
key_same (Name a) (Literal b) e = cc
key_same (Literal a) (Name b) e = cc
key_same (Literal a) (Literal b) e = ap Literal ((bytes_eq-Decides a b).0 e)

-- a key is equal to itself
pub key_refl : (a : TokenKey) → is_key a a ≡ true
key_refl (Name a) = (bytes_eq-Decides a a).1 refl
key_refl (Literal a) = (bytes_eq-Decides a a).1 refl

-- the number of a key with one entry more, whose key is new
pub number_of-push : (table : List TokenEntry) (entry : TokenEntry) (key : TokenKey) → number_of table entry.key ≡ None
    → number_of (table ++ entry ∷ []) key ≡ cond (is_key entry.key key) (Some entry.number) (number_of table key)
number_of-push [] entry key fresh = refl
number_of-push (first ∷ table) entry key fresh = by (is_key first.key entry.key) refl fresh (number_of-push table entry key)
  where
    by : (b : Bool) → is_key first.key entry.key ≡ b → cond b (Some first.number) (number_of table entry.key) ≡ None
        → (number_of table entry.key ≡ None → number_of (table ++ entry ∷ []) key
        ≡ cond (is_key entry.key key) (Some entry.number) (number_of table key)) →
        number_of ((first ∷ table) ++ entry ∷ []) key ≡ cond (is_key entry.key key) (Some entry.number) (number_of (first ∷ table) key)
    by true is none more = cc
    by false is none more =
        ap (λ (o : Option ℕ). cond (is_key first.key key) (Some first.number) o) (more none)
        ∙ swap (is_key first.key key) (is_key entry.key key) refl refl
      where
        swap : (b c : Bool) → is_key first.key key ≡ b → is_key entry.key key ≡ c
            → cond b (Some first.number) (cond c (Some entry.number) (number_of table key))
            ≡ cond c (Some entry.number) (cond b (Some first.number) (number_of table key))
        swap true true p q =
            let e : first.key ≡ entry.key = key_same first.key key p ∙ sym (key_same entry.key key q) in
            let r : is_key first.key entry.key ≡ true = ap (λ (k : TokenKey). is_key k entry.key) e ∙ key_refl entry.key in cc
        swap true false p q = refl
        swap false true p q = refl
        swap false false p q = refl

-- no entry, no number
pub no_numbers : (numbers : Numbers) → ((key : TokenKey) → numbered numbers key ≡ None) → AreNumbersOf [] numbers
no_numbers numbers none = record { same = none; within = λ key number is. absurd cc }

some_le : (b : Bool) (mine number : ℕ) (old : Option ℕ) → mine ≤ MOST_TYPES → ((n : ℕ) → old ≡ Some n → n ≤ MOST_TYPES)
    → cond b (Some mine) old ≡ Some number → number ≤ MOST_TYPES
some_le true mine number old small before is =
    let same : mine ≡ number = cc in subst (λ (n : ℕ). n ≤ MOST_TYPES) same small
some_le false mine number old small before is = before number is

-- the numbers with those of one entry more
pub numbers_more : (table : List TokenEntry) (old new : Numbers) (entry : TokenEntry) → AreNumbersOf table old
    → number_of table entry.key ≡ None → entry.number ≤ MOST_TYPES
    → ((key : TokenKey) → numbered new key ≡ cond (is_key entry.key key) (Some entry.number) (numbered old key))
    → AreNumbersOf (table ++ entry ∷ []) new
numbers_more table old new entry h fresh small added = record {
  same = λ key. added key ∙ (ap (λ (o : Option ℕ). cond (is_key entry.key key) (Some entry.number) o) (h.same key)
      ∙ sym (number_of-push table entry key fresh));
  within = λ key number is. some_le (is_key entry.key key) entry.number number (number_of table key) small (h.within key)
      (sym (number_of-push table entry key fresh) ∙ is);
}

-- the greatest number with one entry more
pub greatest_number-push : (table : List TokenEntry) (entry : TokenEntry)
    → greatest_number (table ++ entry ∷ []) ≡ max (greatest_number table) entry.number
greatest_number-push [] entry = omega arith
greatest_number-push (first ∷ table) entry = let h : greatest_number (table ++ entry ∷ []) ≡ max (greatest_number table) entry.number =
    greatest_number-push table entry in omega arith

-- a table with one entry more
pub indexed_more : (table : List TokenEntry) (old new : Numbers) (greatest : ℕ) (entry : TokenEntry) → IsIndexed table old greatest
    → number_of table entry.key ≡ None → entry.number ≤ MOST_TYPES
    → ((key : TokenKey) → numbered new key ≡ cond (is_key entry.key key) (Some entry.number) (numbered old key))
    → IsIndexed (table ++ entry ∷ []) new (max greatest entry.number)
indexed_more table old new greatest entry h fresh small added =
    let top = greatest_number-push table entry in
    let same = h.greatest_is in
    let low = h.within in
    record {
      indexed = numbers_more table old new entry h.indexed fresh small added;
      greatest_is = omega (arith, top, same);
      within = omega (arith, low, small);
    }
