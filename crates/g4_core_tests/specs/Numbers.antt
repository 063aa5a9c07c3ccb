-- An automaton of numbers: column 0 leads to an end.
use Rattle.std.specs.Prelude.{◌≡◌, ◌<◌, ℕ, zero, suc, ◌+◌, ◌*◌, ◌%◌, List, [], ◌∷◌}
use mathlib.Core.Option as maybe
use lib.ListN.{get_elem?}
use mathlib.Core.Path.{sym, ◌∙◌}
use Rattle.g4_core_tests.specs.declared.numbers.Number.{Number}
use Rattle.g4_store.specs.declared.automaton.Led.{Led}
use Rattle.g4_store.specs.declared.path.Looked.{Looked}
use Rattle.g4_store.specs.declared.path.Path.{Path}
use Rattle.g4_store.specs.declared.automaton.Led.TheVariants.{Row, End}

abbrev pub number : ℕ → Number
number v = record { value = v }

-- what a column leads to
abbrev pub after : Number → ℕ → Led Number
after x zero = End x.value
after x (suc s) = Row (number ((x.value * 7 + s) % 1000)) 0

-- the columns of digits from a number on, and then the end
abbrev pub column_of : ℕ → ℕ
column_of digit = digit % 9

abbrev pub next_of : ℕ → ℕ → ℕ
next_of v digit = (v * 7 + column_of digit) % 1000

abbrev pub looks : ℕ → List ℕ → List (Looked Number)
looks v [] = record { column = 0; led = End v } ∷ []
looks v (digit ∷ digits) =
    record { column = column_of digit + 1; led = Row (number (next_of v digit)) 0 } ∷ looks (next_of v digit) digits

abbrev pub IsAlong : ℕ → List ℕ → Path Number → Type 0
IsAlong start digits path =
    (path.start ≡ start) × (path.content ≡ number (start % 1000)) × (path.looked.items ≡ looks (start % 1000) digits)

abbrev pub StartsAt : ℕ → ℕ → Number → Type 0
StartsAt net i x = x ≡ number (i % 1000)

abbrev pub LeadsTo : ℕ → Number → ℕ → Led Number → Type 0
LeadsTo net x s led = led ≡ after x s

pub one_start : (net i : ℕ) (x y : Number) → StartsAt net i x → StartsAt net i y → x ≡ y
one_start net i x y a b = a ∙ sym b

pub one_led : (net : ℕ) (x : Number) (s : ℕ) (a b : Led Number) → LeadsTo net x s a → LeadsTo net x s b → a ≡ b
one_led net x s a b p q = p ∙ sym q

-- a path of a start below 8 along some digits
abbrev pub IsOne : Path Number → Type 0
IsOne path = (start : ℕ) × (digits : List ℕ) × (start < 8) × IsAlong start digits path

-- each of the paths is one
abbrev pub AreAlong : List (Path Number) → Type 0
AreAlong paths = (k : ℕ) (path : Path Number) → get_elem? paths k ≡ maybe.some path → IsOne path

-- each question of each file is one
abbrev pub FilesAreAlong : List (List (Path Number)) → Type 0
FilesAreAlong files = (file : ℕ) (paths : List (Path Number)) → get_elem? files file ≡ maybe.some paths → AreAlong paths
