-- Patterns without tags, and the trees that are like them.
use Rattle.std.specs.Prelude.{◌≡◌, ℕ, List, Option, Some, None, slice_get}
use Rattle.g4_tokens.specs.declared.token.Token.{Token}
use Rattle.g4_tokens.specs.declared.token.Tokens.{Tokens}
use Rattle.g4_trees.specs.Trees.{Tree, leaf, node, Forest, no_tree, a_tree}
use Rattle.g4_patterns.specs.declared.token.PatternToken.{PatternToken}
use Rattle.g4_patterns.specs.declared.token.PatternToken.TheVariants as patterns
use Rattle.g4_patterns.specs.Matching.{text_in}

-- a token that was looked up is no tag
abbrev pub IsPlain : Option PatternToken → Type 0
IsPlain None = Unit {0}
IsPlain (Some (patterns.Plain symbol text)) = Unit {0}
IsPlain (Some (patterns.TokenTag symbol name)) = ⊥
IsPlain (Some (patterns.RuleTag rule name)) = ⊥

-- tokens that were looked up are of one type, and have one text in a file of these bytes
abbrev pub IsSameToken : List ℕ → Option PatternToken → Option Token → Type 0
IsSameToken bytes None token = ⊥
IsSameToken bytes (Some (patterns.Plain symbol text)) None = ⊥
IsSameToken bytes (Some (patterns.Plain symbol text)) (Some token) = (token.symbol ≡ symbol) × (text_in bytes token ≡ text)
IsSameToken bytes (Some (patterns.TokenTag symbol name)) token = ⊥
IsSameToken bytes (Some (patterns.RuleTag rule name)) token = ⊥

-- a node of this rule
abbrev pub IsNodeOf : ℕ → Tree → Type 0
IsNodeOf rule (leaf at) = ⊥
IsNodeOf rule (node other alt at ts) = other ≡ rule

module _ (pattern : List PatternToken) where
  abbrev mutual
    -- no leaf of the tree is a tag
    pub HasNoTags : Tree → Type 0
    HasNoTags (leaf place) = IsPlain (slice_get pattern place)
    HasNoTags (node rule alt at ts) = HaveNoTags ts

    pub HaveNoTags : Forest → Type 0
    HaveNoTags no_tree = Unit {0}
    HaveNoTags (a_tree t ts) = HasNoTags t × HaveNoTags ts

  module _ (tokens : Tokens) where
    abbrev mutual
      -- the same nodes over tokens of the same types and texts; neither alternatives nor the places of nodes are compared
      pub IsAlike : Tree → Tree → Type 0
      IsAlike (leaf place) (leaf at) = IsSameToken tokens.bytes (slice_get pattern place) (slice_get tokens.list at)
      IsAlike (leaf place) (node rule alt at ts) = ⊥
      IsAlike (node rule alt at ps) (leaf place) = ⊥
      IsAlike (node rule alt at ps) (node other alt' at' ts) = (rule ≡ other) × AreAlike ps ts

      pub AreAlike : Forest → Forest → Type 0
      AreAlike no_tree no_tree = Unit {0}
      AreAlike no_tree (a_tree t ts) = ⊥
      AreAlike (a_tree p ps) no_tree = ⊥
      AreAlike (a_tree p ps) (a_tree t ts) = IsAlike p t × AreAlike ps ts
