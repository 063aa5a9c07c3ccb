-- Marks on the atoms of elements: an atom has a mark where the letter that was read last may have been read by it. Marks are
-- listed in order of the atoms; a list that is too short has no mark further on.
use Rattle.std.specs.Prelude.{List, [], ◌∷◌, ◌++◌, Bool, false, ◌||◌, ◌&&◌}
use Rattle.g4_source.specs.declared.element.Repeat.{Repeat}
use Rattle.g4_source.specs.declared.element.Repeat.TheVariants.{Once, Optional, Star, Plus}
use Rattle.g4_source.specs.Elements.{Element, atom, block, Elements, empty, then, Alternatives, none, or}

-- whether the first atom has a mark
abbrev pub first_mark : List Bool → Bool
first_mark [] = false
first_mark (mark ∷ marks) = mark

-- the marks of the atoms after the first
abbrev pub more_marks : List Bool → List Bool
more_marks [] = []
more_marks (mark ∷ marks) = marks

abbrev mutual
  -- the marks of the atoms after those of an element
  pub past : {A : Type 0} → Element A → List Bool → List Bool
  past (atom a) marks = more_marks marks
  past (block label repeat xs) marks = past_either xs marks

  -- after those of elements
  pub past_all : {A : Type 0} → Elements A → List Bool → List Bool
  past_all empty marks = marks
  past_all (then x xs) marks = past_all xs (past x marks)

  -- after those of alternatives
  pub past_either : {A : Type 0} → Alternatives A → List Bool → List Bool
  past_either none marks = marks
  past_either (or x xs) marks = past_either xs (past_all x marks)

-- whether a block is read to its end: its body is, or it may be left out and what is before it is
abbrev pub block_ends : Repeat → Bool → Bool → Bool
block_ends Once before body = body
block_ends (Optional sign) before body = before || body
block_ends (Star sign) before body = before || body
block_ends (Plus sign) before body = body

-- whether the body of a block may go on being read at its beginning: what is before the block is read to its end, or a turn of
-- a loop is
abbrev pub body_begins : Repeat → Bool → Bool → Bool
body_begins Once before body = before
body_begins (Optional sign) before body = before
body_begins (Star sign) before body = before || body
body_begins (Plus sign) before body = before || body

-- where some atoms read nothing
module _ {A : Type 0} (quiet : A → Bool) where
  abbrev mutual
    -- Whether what was read may end where an element ends: a mark of the element can be its last one, or the element derives
    -- the empty word and what was read may end before it.
    pub ends : Bool → Element A → List Bool → Bool
    ends before (atom a) marks = first_mark marks || (before && quiet a)
    ends before (block label repeat xs) marks = block_ends repeat before (ends_either before xs marks)

    -- where elements one after another end
    pub ends_all : Bool → Elements A → List Bool → Bool
    ends_all before empty marks = before
    ends_all before (then x xs) marks = ends_all (ends before x marks) xs (past x marks)

    -- where one of the alternatives ends
    pub ends_either : Bool → Alternatives A → List Bool → Bool
    ends_either before none marks = false
    ends_either before (or x xs) marks = ends_all before x marks || ends_either before xs (past_all x marks)

  -- and some read the next letter
  module _ (takes : A → Bool) where
    abbrev mutual
      -- the marks of an element once the next letter is read, where what was read before may end before the element or not
      pub shift : Bool → Element A → List Bool → List Bool
      shift before (atom a) marks = (before && takes a) ∷ []
      shift before (block label repeat xs) marks = shift_either (body_begins repeat before (ends_either false xs marks)) xs marks

      -- of elements one after another
      pub shift_all : Bool → Elements A → List Bool → List Bool
      shift_all before empty marks = []
      shift_all before (then x xs) marks = shift before x marks ++ shift_all (ends before x marks) xs (past x marks)

      -- of alternatives
      pub shift_either : Bool → Alternatives A → List Bool → List Bool
      shift_either before none marks = []
      shift_either before (or x xs) marks = shift_all before x marks ++ shift_either before xs (past_all x marks)
