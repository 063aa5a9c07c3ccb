-- What the text between the brackets of a set means.
use Rattle.std.specs.Prelude.{ℕ, ◌≡◌, ◌≢◌, ◌≤◌, ◌⊎◌, ◌↔◌, Bool, true, false, not, nat_le, List, [], ◌∷◌, Option, Some, None, Result, Ok, Err, is_some, take, drop}
use Rattle.std.specs.Bool.{⊤}
use Rattle.std.specs.List.{list_all}
use Rattle.ucd_sets.specs.declared.set.Set.{Set as PropertySet}
use Rattle.ucd_sets.specs.Sets.{in_set}
use Rattle.g4_chars.specs.declared.range.Range.{Range}
use Rattle.g4_chars.specs.declared.escape.Escape.{Escape}
use Rattle.g4_chars.specs.declared.escape.Context.TheVariants.{Set}
use Rattle.g4_chars.specs.declared.escape.Meaning.{Meaning}
use Rattle.g4_chars.specs.declared.escape.Meaning.TheVariants.{Character, Property}
use Rattle.g4_chars.specs.declared.item.Item.{Item}
use Rattle.g4_chars.specs.declared.item.Item.TheVariants.{Member, Named}
use Rattle.g4_chars.specs.declared.part.Part.{Part}
use Rattle.g4_chars.specs.declared.part.Part.TheVariants.{Span, Class}
use Rattle.g4_chars.specs.declared.set_text.SetFault.{SetFault}
use Rattle.g4_chars.specs.declared.set_text.SetFault.TheVariants.{BadEscape, BadSet, NoMemory}
use Rattle.g4_chars.specs.CharSets.{Has, IsScalar, IsCanonical}
use Rattle.g4_chars.specs.Escapes.{escape}
use Rattle.g4_chars.specs.Properties.{property_named}

-- the item that an escape means: the name of a property comes after the backslash and two more characters
abbrev pub escaped_item : Meaning → List ℕ → Item
escaped_item (Character c) rest = Member c false
escaped_item (Property complement count) rest = Named complement (property_named (take count (drop 2 rest)))

-- the text has these items in order: characters that mean themselves, and escapes
pub data AreItems : List ℕ → List Item → Type 0 where
  no_item : AreItems [] []
  a_character : (c : ℕ) (cs : List ℕ) (is : List Item) → c ≢ 92 → AreItems cs is → AreItems (c ∷ cs) (Member c true ∷ is)
  an_escape : (cs : List ℕ) (e : Escape) (is : List Item) → escape Set cs ≡ Some e → AreItems (drop e.taken cs) is
      → AreItems (92 ∷ cs) (escaped_item e.meaning cs ∷ is)

-- after some of its items the text has a backslash with no escape
pub data HasBadEscape : List ℕ → Type 0 where
  at_once : (cs : List ℕ) → escape Set cs ≡ None → HasBadEscape (92 ∷ cs)
  after_a_character : (c : ℕ) (cs : List ℕ) → c ≢ 92 → HasBadEscape cs → HasBadEscape (c ∷ cs)
  after_an_escape : (cs : List ℕ) (e : Escape) → escape Set cs ≡ Some e → HasBadEscape (drop e.taken cs) → HasBadEscape (92 ∷ cs)

-- a `-` with no backslash and a character come first
abbrev pub EndRange : List Item → Type 0
EndRange is = (last : ℕ) × (plain : Bool) × (rest : List Item) × (is ≡ Member 45 true ∷ Member last plain ∷ rest)

-- the items make these parts, from left to right: a character, a plain `-` and a character are a range, and each other item
-- is a part of its own
pub data AreParts : List Item → List Part → Type 0 where
  no_part : AreParts [] []
  a_range : (first last : ℕ) (p q : Bool) (is : List Item) (ps : List Part) → AreParts is ps
      → AreParts (Member first p ∷ Member 45 true ∷ Member last q ∷ is) (Span first last ∷ ps)
  one_character : (c : ℕ) (p : Bool) (is : List Item) (ps : List Part) → (EndRange is → ⊥) → AreParts is ps
      → AreParts (Member c p ∷ is) (Span c c ∷ ps)
  a_property : (complement : Bool) (property : Option PropertySet) (is : List Item) (ps : List Part) → AreParts is ps
      → AreParts (Named complement property ∷ is) (Class complement property ∷ ps)

-- the range does not run backward, or the property is known
abbrev pub is_sound : Part → Bool
is_sound (Span first last) = nat_le first last
is_sound (Class complement property) = is_some property

-- no range runs backward, and each property is known
abbrev pub are_sound : List Part → Bool
are_sound ps = list_all is_sound ps

-- the character is in the range, or has the property, or has it not where the complement is meant
abbrev pub Holds : Part → ℕ → Type 0
Holds (Span first last) c = (first ≤ c) × (c ≤ last) × IsScalar c
Holds (Class complement None) c = ⊥
Holds (Class complement (Some property)) c = (in_set property c ≡ not complement) × IsScalar c

-- the character is in one of the parts
abbrev pub HoldsIn : List Part → ℕ → Type 0
HoldsIn [] c = ⊥
HoldsIn (p ∷ ps) c = Holds p c ⊎ HoldsIn ps c

-- some character is in one of the parts
abbrev pub HoldSome : List Part → Type 0
HoldSome ps = (c : ℕ) × HoldsIn ps c

-- the text spells the set: its parts are sound and hold some character, and the set has their characters and no others
abbrev pub Spells : List ℕ → List Range → Type 0
Spells text set = (is : List Item) × (ps : List Part) × AreItems text is × AreParts is ps × (are_sound ps ≡ true) × HoldSome ps
    × IsCanonical set × ((c : ℕ) → Has set c ↔ HoldsIn ps c)

-- the text is refused for this fault: a bad escape; else a range that runs backward, a property that is not known or a set
-- that is empty, as no character is in any of its parts
abbrev pub IsFault : List ℕ → SetFault → Type 0
IsFault text BadEscape = HasBadEscape text
IsFault text BadSet = (is : List Item) × (ps : List Part) × AreItems text is × AreParts is ps × ((are_sound ps ≡ false) ⊎ (HoldSome ps → ⊥))
IsFault text NoMemory = ⊤

-- the text of a set is read: as the set that it spells, or with the fault that it has
abbrev pub IsReading : List ℕ → Result (List Range) SetFault → Type 0
IsReading text (Ok set) = Spells text set
IsReading text (Err fault) = IsFault text fault
