-- An automaton of the numbers below 1,000 without an end.
use Rattle.std.specs.Prelude.{◌≡◌, ℕ, ◌+◌, ◌*◌, ◌/◌, ◌%◌, ◌<◌, List, [], ◌∷◌, length, slice_index}
use mathlib.Core.Path.{sym, ◌∙◌}
use Rattle.g4_walking.specs.declared.numbers.Salt.{Salt}
use Rattle.g4_walking.specs.declared.numbers.Number.{Number}
use Rattle.g4_store.specs.declared.automaton.Led.{Led}
use Rattle.g4_store.specs.declared.automaton.Led.TheVariants.{Row}
use Rattle.g4_store.specs.declared.automaton.Plan.{Plan}
use Rattle.g4_store.specs.declared.path.Looked.{Looked}

abbrev pub number : ℕ → Number
number v = record { value = v }

abbrev pub after : Salt → Number → ℕ → Number
after net x s = number ((x.value * 7 + s % 1000 + net.salt % 1000) % 1000)

abbrev pub StartsAt : Salt → ℕ → Number → Type 0
StartsAt net i x = x ≡ number (i % 1000)

abbrev pub LeadsTo : Salt → Number → ℕ → Led Number → Type 0
LeadsTo net x s led = led ≡ Row (after net x s) 0

pub one_start : (net : Salt) (i : ℕ) (x y : Number) → StartsAt net i x → StartsAt net i y → x ≡ y
one_start net i x y a b = a ∙ sym b

pub one_led : (net : Salt) (x : Number) (s : ℕ) (a b : Led Number) → LeadsTo net x s a → LeadsTo net x s b → a ≡ b
one_led net x s a b p q = p ∙ sym q

abbrev pub no_plan : Plan Salt
no_plan = record { rows = 0; columns = 0; starts = 0; net = record { salt = 0 } }

-- what is looked at leads from x to y
abbrev pub Leads : Salt → ℕ → Number → List (Looked Number) → Number → Type 0
Leads net n x [] y = x ≡ y
Leads net n x (l ∷ ls) y = (l.column < n) × (l.led ≡ Row (after net x l.column) 0) × Leads net n (after net x l.column) ls y

-- The first n words: the one at 64 v + s is one more than the number to which column s leads from v.
abbrev pub Begins : Salt → List ℕ → ℕ → Type 0
Begins net words n = (length words ≡ n) × ((at : ℕ) → at < n → slice_index words at ≡ 1 + (after net (number (at / 64)) (at % 64)).value)

-- all of them, for the numbers below 1,000 and for 64 columns
abbrev pub IsTable : Salt → List ℕ → Type 0
IsTable net words = Begins net words 64000
