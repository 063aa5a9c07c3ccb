-- Tables of types with one key more.
use Rattle.std.proofs.Common.{◌≡◌, ℕ, ◌+◌, ◌<◌, ◌≤◌, List, [], ◌∷◌, ◌++◌, Bool, true, false, cond, Option, Some, None, max, refl, sym, ap, ◌∙◌, subst, arith, Err}
use Rattle.std.specs.Option.{is_some, unwrap_or}
use Rattle.std.specs.Str.{bytes_eq}
use Rattle.std.proofs.lemmas.Slice.Eq.{bytes_eq-Decides}
use Rattle.g4_tokens.specs.declared.symbol.TheConstants.{MOST_TYPES}
use Rattle.g4_token_file.specs.Keys.{greatest_number, number_of}
use Rattle.g4_token_file.specs.declared.entry.TokenEntry.{TokenEntry}
use Rattle.g4_token_file.proofs.Keyed.{greatest_number-push}
use Rattle.g4_vocab.specs.declared.fault.NumberFault.{NumberFault}
use Rattle.g4_vocab.specs.declared.fault.NumberFault.TheVariants.{Rules, Types, NoMemory}
use Rattle.g4_vocab.specs.Types.{Wanted, entry_of, key_of, literal_number, next_entry, with_key, with_keys}
use Rattle.g4_vocab.specs.Tables.{Adds, GivesNumber}

-- texts that are equal are one
pub bytes_same : (a b : List ℕ) → bytes_eq a b ≡ true → a ≡ b
bytes_same a b = (bytes_eq-Decides a b).0

-- a text is equal to itself
pub bytes_refl : (a : List ℕ) → bytes_eq a a ≡ true
bytes_refl a = (bytes_eq-Decides a a).1 refl

-- the order of two texts does not matter
pub bytes_eq-sym : (a b : List ℕ) → bytes_eq a b ≡ bytes_eq b a
bytes_eq-sym a b = at (bytes_eq a b) (bytes_eq b a) refl refl
  where
    at : (x y : Bool) → bytes_eq a b ≡ x → bytes_eq b a ≡ y → x ≡ y
    at true true p q = refl
    at false false p q = refl
    at true false p q = let e = bytes_same a b p in
        let r : bytes_eq b a ≡ true = ap (λ (z : List ℕ). bytes_eq z a) (sym e) ∙ bytes_refl a in cc
    at false true p q = let e = bytes_same b a q in
        let r : bytes_eq a b ≡ true = ap (λ (z : List ℕ). bytes_eq z b) (sym e) ∙ bytes_refl b in cc

-- the table with a new key
pub with_key-new : (table : List TokenEntry) (wanted : Wanted) → number_of table (key_of wanted.token) ≡ None
    → with_key table wanted ≡ table ++ next_entry table wanted ∷ []
with_key-new table wanted none = ap (λ (o : Option ℕ). cond (is_some o) table (table ++ next_entry table wanted ∷ [])) none

-- the table with a key that it has
pub with_key-old : (table : List TokenEntry) (wanted : Wanted) → is_some (number_of table (key_of wanted.token)) ≡ true
    → table ≡ with_key table wanted
with_key-old table wanted some = sym (ap (λ (b : Bool). cond b table (table ++ next_entry table wanted ∷ [])) some)

-- the greatest type does not fall
with_key_grows : (table : List TokenEntry) (wanted : Wanted) → greatest_number table ≤ greatest_number (with_key table wanted)
with_key_grows table wanted = by (is_some (number_of table (key_of wanted.token)))
  where
    by : (b : Bool) → greatest_number table ≤ greatest_number (cond b table (table ++ next_entry table wanted ∷ []))
    by true = omega arith
    by false = let h = greatest_number-push table (next_entry table wanted) in omega arith

pub with_keys_grows : (table : List TokenEntry) (all : List Wanted) → greatest_number table ≤ greatest_number (with_keys table all)
with_keys_grows table [] = omega arith
with_keys_grows table (wanted ∷ more) = omega (arith, with_key_grows table wanted, with_keys_grows (with_key table wanted) more)

-- keys in two lists
pub with_keys-append : (table : List TokenEntry) (all more : List Wanted)
    → with_keys table (all ++ more) ≡ with_keys (with_keys table all) more
with_keys-append table [] more = refl
with_keys-append table (wanted ∷ all) more = with_keys-append (with_key table wanted) all more

-- no number is there that is not there
pub not_there : {X : Type 0} (o : Option X) → is_some o ≡ false → o ≡ None
not_there None e = refl
not_there (Some x) e = cc

-- a new token without a number has a fault with its cause
pub no_number : (table : List TokenEntry) (wanted : Wanted) (fault : NumberFault) → is_some (number_of table (key_of wanted.token)) ≡ false
    → GivesNumber table wanted.literal (Err fault) → Adds table (wanted ∷ []) (Err fault)
no_number table wanted Rules new h = h
no_number table wanted Types new h =
    let entry : TokenEntry = next_entry table wanted in
    let next : entry.number ≡ greatest_number table + 1 = ap (λ (o : Option ℕ). unwrap_or o (greatest_number table + 1)) h.0 in
    let top : greatest_number (table ++ entry ∷ []) ≡ max (greatest_number table) entry.number = greatest_number-push table entry in
    let past : MOST_TYPES < greatest_number (table ++ entry ∷ []) = omega (arith, top, next, h.1) in
    subst (λ (es : List TokenEntry). MOST_TYPES < greatest_number es) (sym (with_key-new table wanted (not_there _ new))) past
no_number table wanted NoMemory new h = tt

-- a new token with its number
pub one_token_more : (table new : List TokenEntry) (wanted : Wanted) (number : ℕ) → is_some (number_of table (key_of wanted.token)) ≡ false
    → number ≡ unwrap_or (literal_number table wanted.literal) (greatest_number table + 1)
    → new ≡ table ++ entry_of wanted.token number ∷ [] → new ≡ with_keys table (wanted ∷ [])
one_token_more table new wanted number fresh is made =
    made ∙ (ap (λ (n : ℕ). table ++ entry_of wanted.token n ∷ []) is ∙ sym (with_key-new table wanted (not_there _ fresh)))

-- a fault at some tokens is the fault of all
pub adds_err : (start table : List TokenEntry) (all these more : List Wanted) (fault : NumberFault)
    → with_keys table (these ++ more) ≡ with_keys start all → Adds table these (Err fault) → Adds start all (Err fault)
adds_err start table all these more Rules end h = h
adds_err start table all these more Types end h =
    let e : greatest_number (with_keys (with_keys table these) more) ≡ greatest_number (with_keys start all) =
    ap greatest_number (sym (with_keys-append table these more) ∙ end) in
    omega (arith, h, e, with_keys_grows (with_keys table these) more)
adds_err start table all these more NoMemory end h = tt
