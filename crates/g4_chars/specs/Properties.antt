-- The properties of characters that have a name.
use Rattle.std.specs.Prelude.{ℕ, Bool, false, ◌&&◌, ◌==◌, List, [], ◌∷◌, length, Option, Some, None, codes, if◌then◌else◌}
use Rattle.std.specs.Option.{option_or, option_and_then}
use Rattle.std.specs.List.{list_all}
use Rattle.std.specs.Str.{bytes_eq}
use Rattle.std.specs.Char.{is_ascii, is_ascii_uppercase, is_ascii_lowercase}
use Rattle.ucd_sets.specs.declared.property.BinaryProperty.TheVariants.{WhiteSpace}
use Rattle.ucd_sets.specs.declared.set.Set.{Set}
use Rattle.ucd_sets.specs.declared.set.Set.TheVariants.{Any, Ascii, Assigned, Binary, Category, CategoryGroup, Script, ScriptExtension, Age, GraphemeClusterBreak, WordBreak, SentenceBreak}
use Rattle.ucd_sets.specs.Lookup.{by_value}
use Rattle.ucd_sets.specs.Loose.{normalize}

-- a capital letter, and only small letters after it
abbrev pub is_capitalized : List ℕ → Bool
is_capitalized [] = false
is_capitalized (c ∷ cs) = is_ascii_uppercase c && list_all is_ascii_lowercase cs

-- the letters of a short name: two of a general category, one of the group of those that begin with it
abbrev pub letters_of : Set → ℕ
letters_of (Category category) = 2
letters_of (CategoryGroup group) = 1
letters_of Any = 0
letters_of Ascii = 0
letters_of Assigned = 0
letters_of (Binary property) = 0
letters_of (Script script) = 0
letters_of (ScriptExtension script) = 0
letters_of (Age age) = 0
letters_of (GraphemeClusterBreak value) = 0
letters_of (WordBreak value) = 0
letters_of (SentenceBreak value) = 0

-- the set, if a name of this many letters is its short name
abbrev pub if_short : ℕ → Set → Option Set
if_short count set = if count == letters_of set then Some set else None

-- the general category, or group of them, with exactly this short name, as `Lu` or `L`
abbrev pub category_named : List ℕ → Option Set
category_named name = if is_capitalized name then option_and_then (if_short (length name)) (by_value (codes "gc") (normalize name))
    else None

-- the one other property, by exactly its name
abbrev pub white_space_named : List ℕ → Option Set
white_space_named name = if bytes_eq name (codes "White_Space") then Some (Binary WhiteSpace) else None

-- the script with this name, long or short, as loosely as `unicode` compares names, but in ASCII alone: `Greek`, `Grek` or `greek`
abbrev pub script_named : List ℕ → Option Set
script_named name = if list_all is_ascii name then by_value (codes "sc") (normalize name) else None

-- the property with this name, as a set of `unicode`
abbrev pub property_named : List ℕ → Option Set
property_named name = option_or (category_named name) (option_or (white_space_named name) (script_named name))
