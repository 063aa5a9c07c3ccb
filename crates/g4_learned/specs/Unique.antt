-- The parser's automaton has one row for each start, and a row leads to one thing by a column.
use Rattle.std.specs.Prelude.{◌≡◌, ℕ, zero, suc, List, Option, Some, None, Contains}
use mathlib.Core.Path.{refl, sym, ◌∙◌, ap, subst}
use Rattle.g4_net.specs.Configurations.{Config, IsRow, config, wildcard}
use Rattle.g4_net.specs.Lookahead.{Conflict, IsEmpty, Next, Start}
use Rattle.g4_net.proofs.Rows.{one_row}
use Rattle.g4_lookahead.specs.EndOfList.{GoesOn}
use Rattle.g4_store.specs.declared.automaton.Led.{Led}
use Rattle.g4_store.specs.declared.automaton.Led.TheVariants.{Row, End}
use Rattle.g4_learned.specs.Automata.{EndsAs, IsLed, LeadsTo, StartsAt}
use Rattle.g4_guards.specs.Levels.{AllowedAt}
use Rattle.g4_learned.specs.Tables.{Tables}

-- what is there
abbrev key_in : Option (ℕ × ℕ) → ℕ × ℕ
key_in None = (0, 0)
key_in (Some key) = key

pub one_start : (t : Tables) (i : ℕ) (x y : List Config) → StartsAt t i x → StartsAt t i y → x ≡ y
one_start t i x y (d, guard, at, is) (e, other, at', is') =
    let same : ◌≡◌ {A = ℕ × ℕ} (d, guard) (e, other) = ap key_in (sym at ∙ at') in
    one_row (Start t.net e (AllowedAt t.net e other) wildcard) x y
    (subst (λ (key : ℕ × ℕ). IsRow x (Start t.net key.0 (AllowedAt t.net key.0 key.1) wildcard)) same is) is'

-- a set with a conflict has a member
some_in : (D : Config → Type 0) → Conflict D → IsEmpty D → ⊥
some_in D c e = e (config c.0 c.1 c.4.0) c.4.1

-- a set ends SLL in one way
one_end : (D : Config → Type 0) (m n : ℕ) → EndsAs D m → EndsAs D n → m ≡ n
one_end D zero zero e f = refl
one_end D zero (suc zero) e (several, matters) = absurd (some_in D matters.conflict e)
one_end D zero (suc (suc j)) e only = absurd (e only.some.0 only.some.1)
one_end D (suc zero) zero (several, matters) e = absurd (some_in D matters.conflict e)
one_end D (suc zero) (suc zero) e f = refl
one_end D (suc zero) (suc (suc j)) (several, matters) only = absurd (several j only)
one_end D (suc (suc i)) zero only e = absurd (e only.some.0 only.some.1)
one_end D (suc (suc i)) (suc zero) only (several, matters) = absurd (several i only)
one_end D (suc (suc i)) (suc (suc j)) only other =
    let same : i ≡ j = sym (only.all only.some.0 only.some.1) ∙ other.all only.some.0 only.some.1 in
    ap (λ n. suc (suc n)) same

-- where SLL goes on it does not end
goes_on_only : (D : Config → Type 0) (n : ℕ) → GoesOn D → EndsAs D n → ⊥
goes_on_only D zero g e = g.some e
goes_on_only D (suc zero) g (several, matters) = g.clear matters
goes_on_only D (suc (suc i)) g only = g.several i only

one_of : (D : Config → Type 0) (a b : Led (List Config)) → IsLed D a → IsLed D b → a ≡ b
one_of D (Row x m) (Row y n) (none, goes, is) (none', goes', is') =
    let rows : x ≡ y = one_row D x y is is' in
    let marks : m ≡ n = none ∙ sym none' in
    ap (λ (z : List Config). Row z m) rows ∙ ap (λ (k : ℕ). Row y k) marks
one_of D (Row x m) (End n) (none, goes, is) (small, ends) = absurd (goes_on_only D n goes ends)
one_of D (End m) (Row y n) (small, ends) (none, goes, is) = absurd (goes_on_only D m goes ends)
one_of D (End m) (End n) (small, ends) (small', ends') = ap End (one_end D m n ends ends')

pub one_led : (t : Tables) (x : List Config) (s : ℕ) (a b : Led (List Config)) → LeadsTo t x s a → LeadsTo t x s b → a ≡ b
one_led t x s a b l m =
    let (symbol, is, at) = l.some in
    one_of (Next t.net (Contains x) symbol) a b (l.each symbol is at) (m.each symbol is at)
