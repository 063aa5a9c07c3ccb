-- The text of a pattern as signs: plain characters, and tags. A tag is `<NAME>` or `<NAME:NAME>`, where the last name is one of those that
-- a tag may have; `\<` and `\>` are plain characters, and so are a `>` outside a tag and any other backslash.
use Rattle.std.specs.Prelude.{◌≡◌, ◌≢◌, ◌⊎◌, ℕ, List, [], ◌∷◌, ◌++◌, Option, Some, None, encode_utf8_all, length}
use Rattle.g4_tags.specs.declared.sign.Sign.{Sign}
use Rattle.g4_tags.specs.declared.sign.Sign.TheVariants.{Letter, Escaped, Tagged}
use Rattle.g4_tags.specs.declared.tag.Tag.{Tag}
use Rattle.g4_tags.specs.Names.{IsLabel, IsName}

-- the label of a tag as it is written
abbrev pub label_written : Option (List ℕ) → List ℕ
label_written None = []
label_written (Some label) = label ++ 58 ∷ []

-- a tag as it is written
abbrev pub tag_written : Option (List ℕ) → List ℕ → List ℕ
tag_written label name = 60 ∷ label_written label ++ name ++ 62 ∷ []

-- the characters of a sign as it is written
abbrev pub written : Sign → List ℕ
written (Letter c) = c ∷ []
written (Escaped c) = 92 ∷ c ∷ []
written (Tagged tag) = tag_written tag.label tag.name

-- `<` or `>`
abbrev pub IsBracket : ℕ → Type 0
IsBracket c = (c ≡ 60) ⊎ (c ≡ 62)

-- the text begins with one of them
abbrev pub BeginsWithBracket : List ℕ → Type 0
BeginsWithBracket [] = ⊥
BeginsWithBracket (c ∷ cs) = IsBracket c

-- what a tag names has a number
module _ (number : List ℕ → Option ℕ) where
  -- A tag: its name is one that a tag may have.
  pub record IsTag (tag : Tag) : Type 0 where
    pub label : IsLabel tag.label
    pub name : IsName tag.name
    pub known : number (encode_utf8_all tag.name) ≡ Some tag.named

  -- the sign is one, where this is written directly after it
  abbrev pub IsSignBefore : Sign → List ℕ → Type 0
  IsSignBefore (Letter c) rest = (c ≢ 60) × (c ≡ 92 → BeginsWithBracket rest → ⊥)
  IsSignBefore (Escaped c) rest = IsBracket c
  IsSignBefore (Tagged tag) rest = IsTag tag

  -- the text begins with the sign, and then the rest follows
  abbrev pub IsSign : Sign → List ℕ → List ℕ → Type 0
  IsSign sign text rest = (text ≡ written sign ++ rest) × IsSignBefore sign rest

  -- the text begins with no tag
  abbrev pub BeginsWithNoTag : List ℕ → Type 0
  BeginsWithNoTag text = (tag : Tag) (rest : List ℕ) → IsSign (Tagged tag) text rest → ⊥

-- the text begins with the signs, one after another, and then the rest follows
pub data Reads (number : List ℕ → Option ℕ) : List ℕ → List Sign → List ℕ → Type 0 where
  nothing : (text : List ℕ) → Reads number text [] text
  one_more : (sign : Sign) (signs : List Sign) (text more rest : List ℕ) → IsSign number sign text more → Reads number more signs rest
      → Reads number text (sign ∷ signs) rest

-- A text begins with signs, and this many bytes on there is a `<` with which no tag begins.
pub record StopsAt (number : List ℕ → Option ℕ) (text : List ℕ) (at : ℕ) : Type 0 where
  pub signs : List Sign
  pub front : List ℕ
  pub after : List ℕ
  pub cut : text ≡ front ++ 60 ∷ after
  pub read : Reads number text signs (60 ∷ after)
  pub no_tag : BeginsWithNoTag number (60 ∷ after)
  pub at_byte : at ≡ length (encode_utf8_all front)

-- the name to which a tag binds what it matches: its label, where it has one, and else its name
abbrev pub bound_name : Option (List ℕ) → List ℕ → List ℕ
bound_name None name = name
bound_name (Some label) name = label
