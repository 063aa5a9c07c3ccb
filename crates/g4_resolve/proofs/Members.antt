-- The symbols of the sets that atoms of parser rules become.
use Rattle.std.proofs.Common.{◌≡◌, ◌≢◌, ◌≤◌, ◌<◌, ◌⊎◌, ◌↔◌, ◌==◌, ◌||◌, ◌-◌, inl, inr, ℕ, zero, suc, ◌+◌, List, [], ◌∷◌, length, get_or, filter, Bool, true, false, not, cond, max, refl, sym, ap, ◌∙◌, subst, All, Contains, arith}
use Rattle.std.specs.List.{list_any, range_with_len}
use Rattle.std.proofs.lemmas.Bool.{cases_Bool}
use Rattle.std.proofs.lemmas.Bool.Decides.{nat_tests}
use Rattle.std.proofs.lemmas.List.Elements.{All-nil, All-cons, All-head, All-tail}
use Rattle.std.proofs.lemmas.List.FromFn.{length-range_with_len, get_or-range_with_len}
use Rattle.g4_source.specs.declared.atom.TokenReference.{TokenReference}
use Rattle.g4_source.specs.declared.rule.LexerRule.{LexerRule}
use Rattle.g4_token_file.specs.Keys.{greatest_number}
use Rattle.g4_token_file.specs.declared.entry.TokenEntry.{TokenEntry}
use Rattle.g4_vocab.specs.Numbering.{symbol_of, types_without}
use Rattle.g4_vocab.specs.Types.{all_types, is_type}
use Rattle.g4_resolve.specs.Derivations.{IsTokenType}
use Rattle.g4_resolve.proofs.Numbers.{first_or_other}

-- an item of some is one of these and the first too
later : {X : Type 0} (first : X) (xs : List X) (x : X) → Contains xs x → Contains (first ∷ xs) x
later first xs x (k, less, is) = (suc k, omega (arith, less), is)

-- the only item
pub only_item : {X : Type 0} (x y : X) → Contains (x ∷ []) y → x ≡ y
only_item x y (zero, less, is) = is
only_item x y (suc k, less, is) = absurd (omega (arith, less))

pub itself : {X : Type 0} (x y : X) → x ≡ y → Contains (x ∷ []) y
itself x y same = (0, omega arith, same)

pub no_item : {X : Type 0} (x : X) → Contains [] x → ⊥
no_item x (k, less, is) = omega (arith, less)

-- an item of a list that passes a test
abbrev Passes : {X : Type 0} → (X → Bool) → List X → X → Type 0
Passes test xs x = Contains xs x × (test x ≡ true)

module _ {X : Type 0} (test : X → Bool) where
  -- it is one of those that pass
  filter_has : (xs : List X) (x : X) → Passes test xs x → Contains (filter test xs) x
  filter_has [] x p = absurd (no_item x p.0)
  filter_has (y ∷ xs) x p = elim (first_or_other y xs x p.0) [
    | inl same ↦
        let here : test y ≡ true = ap test same ∙ p.1 in
        rw here (0, omega arith, same)
    | inr other ↦ by (test y) (filter_has xs x (other, p.1))
  ]
    where
      by : (b : Bool) → Contains (filter test xs) x → Contains (cond b (y ∷ filter test xs) (filter test xs)) x
      by true h = later y (filter test xs) x h
      by false h = h

  -- and back
  filter_only : (xs : List X) (x : X) → Contains (filter test xs) x → Passes test xs x
  filter_only [] x h = absurd (no_item x h)
  filter_only (y ∷ xs) x h = by (test y) refl h (λ there. let p = filter_only xs x there in (later y xs x p.0, p.1))
    where
      by : (b : Bool) → test y ≡ b → Contains (cond b (y ∷ filter test xs) (filter test xs)) x
          → (Contains (filter test xs) x → Passes test (y ∷ xs) x) → Passes test (y ∷ xs) x
      by true e h rest = elim (first_or_other y (filter test xs) x h) [
        | inl same ↦ ((0, omega arith, same), ap test (sym same) ∙ e)
        | inr other ↦ rest other
      ]
      by false e h rest = rest h

-- the numbers of a range
range_has : (a n s : ℕ) → a ≤ s → s < a + n → Contains (range_with_len a n) s
range_has a n s low high =
    let within : s - a < n = omega (arith, low, high) in
    let e : a + (s - a) ≡ s = omega (arith, low) in
    (s - a, omega (arith, length-range_with_len a n, within), get_or-range_with_len a n (s - a) s within ∙ e)

range_only : (a n s : ℕ) → Contains (range_with_len a n) s → a ≤ s
range_only a n s (k, less, is) =
    let within : k < n = omega (arith, length-range_with_len a n, less) in
    let e : a + k ≡ s = sym (get_or-range_with_len a n k s within) ∙ is in
    omega (arith, e)

-- an entry has the number
abbrev HasEntry : List TokenEntry → ℕ → Type 0
HasEntry types s = (entry : TokenEntry) × Contains types entry × (entry.number ≡ s)

-- numbers that are equal, and those that are not
equal_yes : (a b : ℕ) → a ≡ b → (a == b) ≡ true
equal_yes a b same = grind (arith, nat_tests)

yes_equal : (a b : ℕ) → (a == b) ≡ true → a ≡ b
yes_equal a b e = grind (arith, nat_tests)

type_entry : (types : List TokenEntry) (s : ℕ) → is_type types s ≡ true → HasEntry types s
type_entry [] s h = absurd (let n : ⊥ = cc in n)
type_entry (entry ∷ types) s h =
    by (entry.number == s) refl h (λ e. let rest = type_entry types s e in (rest.0, later entry types rest.0 rest.1, rest.2))
  where
    by : (b : Bool) → (entry.number == s) ≡ b → (b || is_type types s) ≡ true
        → (is_type types s ≡ true → HasEntry (entry ∷ types) s) → HasEntry (entry ∷ types) s
    by true e h rest = (entry, (0, omega arith, refl), yes_equal entry.number s e)
    by false e h rest = rest h

entry_type : (types : List TokenEntry) (s : ℕ) (entry : TokenEntry) → Contains types entry → entry.number ≡ s → is_type types s ≡ true
entry_type [] s entry among is = absurd (no_item entry among)
entry_type (other ∷ types) s entry among is = elim (first_or_other other types entry among) [
  | inl same ↦ (let e : (other.number == s) ≡ true = equal_yes other.number s (ap (λ (x : TokenEntry). x.number) same ∙ is) in rw e refl)
  | inr rest ↦ by (other.number == s) (entry_type types s entry rest is)
]
  where
    by : (b : Bool) → is_type types s ≡ true → (b || is_type types s) ≡ true
    by true h = refl
    by false h = h

-- an entry's number is at most the greatest
entry_low : (types : List TokenEntry) (entry : TokenEntry) → Contains types entry → entry.number ≤ greatest_number types
entry_low [] entry among = absurd (no_item entry among)
entry_low (other ∷ types) entry among = elim (first_or_other other types entry among) [
  | inl same ↦
      let e : other.number ≡ entry.number = ap (λ (x : TokenEntry). x.number) same in
      omega (arith, e)
  | inr rest ↦ omega (arith, entry_low types entry rest)
]

-- the types of a table are its token types
pub types_only : (types : List TokenEntry) (s : ℕ) → Contains (all_types types) s → IsTokenType types s
types_only types s h =
    let p = filter_only (is_type types) (range_with_len 1 (greatest_number types)) s h in
    (range_only 1 (greatest_number types) s p.0, type_entry types s p.1)

pub types_have : (types : List TokenEntry) (s : ℕ) → IsTokenType types s → Contains (all_types types) s
types_have types s (low, (entry, among, is)) =
    filter_has (is_type types) (range_with_len 1 (greatest_number types)) s
    (range_has 1 (greatest_number types) s low (omega (arith, entry_low types entry among, is)), entry_type types s entry among is)

module _ (lexers : List LexerRule) (types : List TokenEntry) (s : ℕ) where
  -- the token has another symbol
  abbrev IsOther : TokenReference → Type 0
  IsOther token = symbol_of lexers types token ≢ s

  -- one of the tokens has this symbol
  abbrev is_named : List TokenReference → Bool
  is_named tokens = list_any (λ token. symbol_of lexers types token == s) tokens

  others_named : (tokens : List TokenReference) → not (is_named tokens) ≡ true → All IsOther tokens
  others_named [] h = All-nil IsOther
  others_named (token ∷ tokens) h = by (symbol_of lexers types token == s) refl h (others_named tokens)
    where
      by : (b : Bool) → (symbol_of lexers types token == s) ≡ b → not (b || is_named tokens) ≡ true
          → (not (is_named tokens) ≡ true → All IsOther tokens) → All IsOther (token ∷ tokens)
      by true e h rest = absurd (let n : ⊥ = cc in n)
      by false e h rest = All-cons IsOther token tokens
          (λ same. let yes = equal_yes (symbol_of lexers types token) s same in let n : ⊥ = cc in n) (rest h)

  named_others : (tokens : List TokenReference) → All IsOther tokens → not (is_named tokens) ≡ true
  named_others [] h = refl
  named_others (token ∷ tokens) h =
      by (symbol_of lexers types token == s) refl (named_others tokens (All-tail IsOther token tokens h))
    where
      by : (b : Bool) → (symbol_of lexers types token == s) ≡ b → not (is_named tokens) ≡ true → not (b || is_named tokens) ≡ true
      by true e rest = absurd (All-head IsOther token tokens h (yes_equal (symbol_of lexers types token) s e))
      by false e rest = rest

  -- the types but those of some tokens
  pub without_only : (tokens : List TokenReference) → Contains (types_without lexers types tokens) s
      → IsTokenType types s × All IsOther tokens
  without_only tokens h =
      let p = filter_only (λ (type : ℕ). not (list_any (λ token. symbol_of lexers types token == type) tokens)) (all_types types) s h in
      (types_only types s p.0, others_named tokens p.1)

  pub without_have : (tokens : List TokenReference) → IsTokenType types s → All IsOther tokens
      → Contains (types_without lexers types tokens) s
  without_have tokens type others =
      filter_has (λ (type : ℕ). not (list_any (λ token. symbol_of lexers types token == type) tokens)) (all_types types) s
      (types_have types s type, named_others tokens others)
