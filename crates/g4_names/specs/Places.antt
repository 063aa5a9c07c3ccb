-- The places of names in a list.
use Rattle.std.specs.Prelude.{◌≡◌, ℕ, List, Option}
use Rattle.std.specs.BTreeMap.{get_by}
use Rattle.std.specs.Cmp.Lexicographic.{slice_cmp}
use Rattle.std.specs.List.{position}
use Rattle.std.specs.Ordering.{nat_cmp}
use Rattle.std.specs.Str.{bytes_eq}
use Rattle.g4_names.specs.declared.places.Places.{Places}

-- the place of the first of the names that is this one
abbrev pub first_place : List (List ℕ) → List ℕ → Option ℕ
first_place names name = position (λ other. bytes_eq other name) names

-- the place that these places have for a name
unfoldable pub place_in : Places → List ℕ → Option ℕ
place_in places name = get_by (λ other. slice_cmp nat_cmp name other.now) places.by_name

-- each name has the place of the first of the names that is this one
abbrev pub ArePlaces : List (List ℕ) → Places → Type 0
ArePlaces names places = (name : List ℕ) → place_in places name ≡ first_place names name
