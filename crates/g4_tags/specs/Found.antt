-- What a text begins with, as it is found from left to right.
use Rattle.std.specs.Prelude.{ℕ, ◌+◌, List, [], ◌∷◌, Option, Some, None, ◌==◌, ◌||◌, cond, if◌then◌else◌, drop, take, slice_get, encode_utf8_all}
use Rattle.std.specs.List.{prefix_len}
use Rattle.unicode.specs.Binary.{is_alphabetic}
use Rattle.g4_grammar_tokens.specs.Characters.{is_name_part}
use Rattle.g4_tags.specs.declared.sign.FoundSign.{FoundSign}
use Rattle.g4_tags.specs.declared.sign.Sign.TheVariants.{Letter, Escaped, Tagged}
use Rattle.g4_tags.specs.declared.tag.FoundTag.{FoundTag}

-- how long the longest name is with which the text begins
abbrev pub name_end : List ℕ → Option ℕ
name_end [] = None
name_end (c ∷ cs) = cond (is_alphabetic c) (Some (1 + prefix_len is_name_part cs)) None

-- the tag of these names, so many characters after its `<`, where its name has this number
abbrev pub tag_numbered : Option (List ℕ) → List ℕ → ℕ → Option ℕ → Option FoundTag
tag_numbered label name width None = None
tag_numbered label name width (Some k) = Some (record { tag = record { label = label; name = name; named = k }; width = width })

-- a bracket at the beginning
abbrev pub bracket_at : List ℕ → Option ℕ
bracket_at [] = None
bracket_at (c ∷ cs) = if c == 60 || c == 62 then Some c else None

-- the sign that begins with a backslash, by the bracket after it
abbrev pub after_backslash : Option ℕ → Option FoundSign
after_backslash None = Some (record { sign = Letter 92; width = 1 })
after_backslash (Some c) = Some (record { sign = Escaped c; width = 2 })

module _ (number : List ℕ → Option ℕ) where
  -- the tag of these names
  abbrev pub tag_named : Option (List ℕ) → List ℕ → ℕ → Option FoundTag
  tag_named label name width = tag_numbered label name width (number (encode_utf8_all name))

  -- a tag with a label of n characters and a name of m, by what is after the name
  abbrev pub closed_by : List ℕ → ℕ → ℕ → Option ℕ → Option FoundTag
  closed_by text n m None = None
  closed_by text n m (Some c) =
      if c == 62 then tag_named (Some (take n text)) (take m (drop (n + 1) text)) (n + m + 2) else None

  -- the same by where the name ends
  abbrev pub labelled_by : List ℕ → ℕ → Option ℕ → Option FoundTag
  labelled_by text n None = None
  labelled_by text n (Some m) = closed_by text n m (slice_get (drop (n + 1) text) m)

  -- a tag whose first name has n characters, by what is after it
  abbrev pub tag_by : List ℕ → ℕ → Option ℕ → Option FoundTag
  tag_by text n None = None
  tag_by text n (Some c) = if c == 62 then tag_named None (take n text) (n + 1)
      else (if c == 58 then labelled_by text n (name_end (drop (n + 1) text)) else None)

  -- the same by where the first name ends
  abbrev pub tag_from : List ℕ → Option ℕ → Option FoundTag
  tag_from text None = None
  tag_from text (Some n) = tag_by text n (slice_get text n)

  -- the tag with which the text begins, but for its `<`
  abbrev pub tag_found : List ℕ → Option FoundTag
  tag_found text = tag_from text (name_end text)

  -- a tag as a sign
  abbrev pub as_sign : Option FoundTag → Option FoundSign
  as_sign None = None
  as_sign (Some found) = Some (record { sign = Tagged found.tag; width = found.width + 1 })

  -- the sign with which a text begins, which is a character and what is after it
  abbrev pub sign_found : ℕ → List ℕ → Option FoundSign
  sign_found c after = if c == 60 then as_sign (tag_found after)
      else (if c == 92 then after_backslash (bracket_at after) else Some (record { sign = Letter c; width = 1 }))
