-- The items and parts of the text of a set, listed.
use Rattle.std.specs.Prelude.{ℕ, zero, suc, Bool, true, false, ◌&&◌, ◌==◌, List, [], ◌∷◌, Option, Some, None, option_map, is_some, unwrap_or, if◌then◌else◌}
use Rattle.g4_chars.specs.declared.escape.Escape.{Escape}
use Rattle.g4_chars.specs.declared.escape.Context.TheVariants.{Set}
use Rattle.g4_chars.specs.declared.item.Found.{Found}
use Rattle.g4_chars.specs.declared.item.Item.{Item}
use Rattle.g4_chars.specs.declared.item.Item.TheVariants.{Member, Named}
use Rattle.g4_chars.specs.declared.part.Part.{Part}
use Rattle.g4_chars.specs.declared.part.Part.TheVariants.{Span, Class}
use Rattle.g4_chars.specs.Escapes.{escape}
use Rattle.g4_chars.specs.SetText.{escaped_item}

-- the item that begins with the character, and how many characters after that belong to it
abbrev pub item_at : ℕ → List ℕ → Option Found
item_at c rest =
    if c == 92 then option_map (λ (e : Escape). record { item = escaped_item e.meaning rest; taken = e.taken }) (escape Set rest)
    else Some (record { item = Member c true; taken = 0 })

-- the items of the text, unless it has a bad escape; the first characters are passed over
abbrev pub items_from : ℕ → List ℕ → Option (List Item)
items_from skip [] = Some []
items_from (suc skip) (c ∷ cs) = items_from skip cs
items_from zero (c ∷ cs) = elim (item_at c cs)
    [ None ↦ None | Some found ↦ option_map (λ more. found.item ∷ more) (items_from found.taken cs) ]

-- the items of the text, unless it has a bad escape
abbrev pub items : List ℕ → Option (List Item)
items text = items_from 0 text

-- a `-` with no backslash
abbrev pub is_hyphen : Item → Bool
is_hyphen (Member c plain) = (c == 45) && plain
is_hyphen (Named complement property) = false

-- the character, if the item is one
abbrev pub character_of : Item → Option ℕ
character_of (Member c plain) = Some c
character_of (Named complement property) = None

-- the last character of the range, if a `-` and a character follow its first
abbrev pub range_end : List Item → Option ℕ
range_end [] = None
range_end (hyphen ∷ []) = None
range_end (hyphen ∷ last ∷ _) = if is_hyphen hyphen then character_of last else None

-- the range that begins with the character: of that character alone, if no `-` and character follow
abbrev pub span_of : ℕ → List Item → Part
span_of c rest = Span c (unwrap_or (range_end rest) c)

-- how many of the items after its first character the range takes
abbrev pub more_of_span : List Item → ℕ
more_of_span rest = if is_some (range_end rest) then 2 else 0

-- the part that begins with the item
abbrev pub part_of : Item → List Item → Part
part_of (Member c plain) rest = span_of c rest
part_of (Named complement property) rest = Class complement property

-- how many of the items after its first the part takes
abbrev pub more_of : Item → List Item → ℕ
more_of (Member c plain) rest = more_of_span rest
more_of (Named complement property) rest = 0

-- the parts that the items make, read from left to right; the first items are passed over
abbrev pub parts_from : ℕ → List Item → List Part
parts_from skip [] = []
parts_from (suc skip) (i ∷ is) = parts_from skip is
parts_from zero (i ∷ is) = part_of i is ∷ parts_from (more_of i is) is

-- the parts that the items make, read from left to right
abbrev pub parts : List Item → List Part
parts is = parts_from 0 is
