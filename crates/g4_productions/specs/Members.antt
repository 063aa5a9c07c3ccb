-- Sets by their ranges, listed by their characters.
use Rattle.std.specs.Prelude.{ℕ, zero, suc, ◌+◌, List, [], ◌∷◌, Bool, false, Option, Some, None, map, unwrap_or, not, ◌&&◌, ◌||◌, ◌==◌, nat_le, if◌then◌else◌}
use Rattle.ucd_sets.specs.Sets.{in_set}
use Rattle.g4_chars.specs.Escapes.{is_scalar}
use Rattle.g4_chars.specs.Reading.{items, parts}
use Rattle.g4_chars.specs.SetText.{are_sound}
use Rattle.g4_chars.specs.declared.item.Item.{Item}
use Rattle.g4_chars.specs.declared.part.Part.{Part}
use Rattle.g4_chars.specs.declared.part.Part.TheVariants as sets
use Rattle.g4_chars.specs.declared.range.Range.{Range as Span}

-- whether the character is in the part
abbrev pub holds : Part → ℕ → Bool
holds (sets.Span first last) c = (nat_le first c && nat_le c last) && is_scalar c
holds (sets.Class complement None) c = false
holds (sets.Class complement (Some property)) c = (if complement then not (in_set property c) else in_set property c) && is_scalar c

-- whether the character is in one of the parts
abbrev pub holds_in : List Part → ℕ → Bool
holds_in [] c = false
holds_in (p ∷ ps) c = holds p c || holds_in ps c

-- the ranges with one character more, which is before them
abbrev pub with_first : ℕ → List Span → List Span
with_first c [] = record { first = c; last = c } ∷ []
with_first c (span ∷ spans) = if span.first == c + 1 then record { first = c; last = span.last } ∷ spans
    else record { first = c; last = c } ∷ span ∷ spans

-- of so many code points from the start on, the ranges of those that pass the test
unfoldable pub ranges_from : (ℕ → Bool) → ℕ → ℕ → List Span
ranges_from test start zero = []
ranges_from test start (suc count) = if test start then with_first start (ranges_from test (start + 1) count)
    else ranges_from test (start + 1) count

-- the ranges of the characters that are in one of the parts
abbrev pub ranges_in : List Part → List Span
ranges_in ps = ranges_from (holds_in ps) 0 0x110000

-- a range as a part
abbrev pub part_of : Span → Part
part_of span = sets.Span span.first span.last

-- the set of the characters that are in one of the ranges, which come in any order and may overlap
abbrev pub set_of_ranges : List Span → List Span
set_of_ranges spans = ranges_in (map part_of spans)

-- the ranges, if there is one
abbrev pub unless_empty : List Span → Option (List Span)
unless_empty [] = None
unless_empty (r ∷ rs) = Some (r ∷ rs)

-- the set of these parts, if they are sound and hold a character
abbrev pub set_of_parts : List Part → Option (List Span)
set_of_parts ps = if are_sound ps then unless_empty (ranges_in ps) else None

-- the set with these items
abbrev pub set_of_items : Option (List Item) → Option (List Span)
set_of_items None = None
set_of_items (Some is) = set_of_parts (parts is)

-- the set with this content, unless it is bad
abbrev pub set_of : List ℕ → Option (List Span)
set_of text = set_of_items (items text)

-- the set with this content: a bad set is empty
abbrev pub ranges_of : List ℕ → List Span
ranges_of text = unwrap_or (set_of text) []
