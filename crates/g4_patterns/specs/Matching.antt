-- What a pattern matches, and what its tags are bound to, by cases.
use Rattle.std.specs.Prelude.{◌≡◌, ◌↔◌, ◌<◌, ℕ, suc, ◌+◌, List, [], ◌∷◌, ◌++◌, length, Option, Some, None, slice_get, cond, codes, Contains}
use Rattle.g4_tokens.specs.declared.token.Token.{Token}
use Rattle.g4_tokens.specs.declared.token.Tokens.{Tokens}
use Rattle.g4_tokens.specs.TokenList.{bytes_of}
use Rattle.g4_trees.specs.declared.tree.Item.{Item}
use Rattle.g4_trees.specs.Trees.{Tree, leaf, node, Forest, no_tree, a_tree, only, items_of}
use Rattle.g4_trees.specs.TreeText.{is_at_end}
use Rattle.g4_patterns.specs.declared.token.PatternToken.{PatternToken}
use Rattle.g4_patterns.specs.declared.token.PatternToken.TheVariants as patterns
use Rattle.g4_patterns.specs.declared.binding.Binding.{Binding}
use Rattle.g4_patterns.specs.Places.{IsTreeAt}

-- the text of a token in a file of these bytes: those that close the file have `<EOF>`
abbrev pub text_in : List ℕ → Token → List ℕ
text_in bytes token = cond (is_at_end bytes token) (codes "<EOF>") (bytes_of bytes token)

-- a tag of this name is bound to the tree that begins at this item
abbrev pub bound : List ℕ → ℕ → List Binding
bound name k = record { name = name; node = k } ∷ []

-- The pattern's tokens, and those of the file.
module _ (pattern : List PatternToken) (tokens : Tokens) where
  mutual
    -- A tree of the pattern matches a tree that begins at this item, with these bindings. A tree is known by the place of its first
    -- item, so a node is bound by where it begins. Neither the numbers of alternatives nor the places of nodes are compared.
    pub data Matches : Tree → ℕ → Tree → List Binding → Type 0 where
      -- a node whose one child is the tag of its rule matches each node of the rule
      any_node : (rule alt at alt' at' place k : ℕ) (name : List ℕ) (children : Forest)
          → slice_get pattern place ≡ Some (patterns.RuleTag rule name)
          → Matches (node rule alt at (only (leaf place))) k (node rule alt' at' children) (bound name k)
      -- another node matches a node of the same rule whose children match one by one
      same_rule : (rule alt at alt' at' k : ℕ) (ps ts : Forest) (bs : List Binding) → MatchAll ps (suc k) ts bs
          → Matches (node rule alt at ps) k (node rule alt' at' ts) bs
      -- a plain token matches a token of the same type and text
      same_token : (place at k symbol : ℕ) (text : List ℕ) (token : Token)
          → slice_get pattern place ≡ Some (patterns.Plain symbol text) → slice_get tokens.list at ≡ Some token
          → token.symbol ≡ symbol → text_in tokens.bytes token ≡ text → Matches (leaf place) k (leaf at) []
      -- the tag of a token type matches each token of the type
      any_token : (place at k symbol : ℕ) (name : List ℕ) (token : Token)
          → slice_get pattern place ≡ Some (patterns.TokenTag symbol name) → slice_get tokens.list at ≡ Some token
          → token.symbol ≡ symbol → Matches (leaf place) k (leaf at) (bound name k)

    -- trees of the pattern match trees one by one, the first of which begins at this item; their bindings are in order
    pub data MatchAll : Forest → ℕ → Forest → List Binding → Type 0 where
      none_left : (k : ℕ) → MatchAll no_tree k no_tree []
      one_more : (p t : Tree) (ps ts : Forest) (k : ℕ) (first rest all : List Binding) → Matches p k t first
          → MatchAll ps (k + length (items_of t)) ts rest → all ≡ first ++ rest → MatchAll (a_tree p ps) k (a_tree t ts) all

-- a node, and no token
abbrev pub IsNode : Tree → Type 0
IsNode (leaf at) = ⊥
IsNode (node rule alt at children) = Unit {0}

-- the tree of a pattern with these items and tokens matches the node that begins at this item, with these bindings
abbrev pub MatchesAt : List Item → List PatternToken → List Item → Tokens → ℕ → List Binding → Type 0
MatchesAt pattern_items pattern_tokens items tokens k bs =
    (p t : Tree) × (pattern_items ≡ items_of p) × IsTreeAt items k t × IsNode t × Matches pattern_tokens tokens p k t bs

-- the bindings with which the pattern matches there; none where it does not
abbrev pub AreBindings : List Item → List PatternToken → List Item → Tokens → ℕ → Option (List Binding) → Type 0
AreBindings pattern_items pattern_tokens items tokens k None =
    (bs : List Binding) → MatchesAt pattern_items pattern_tokens items tokens k bs → ⊥
AreBindings pattern_items pattern_tokens items tokens k (Some bs) = MatchesAt pattern_items pattern_tokens items tokens k bs

-- each number is less than those after it
abbrev pub IsAscending : List ℕ → Type 0
IsAscending [] = Unit {0}
IsAscending (k ∷ ks) = ((j : ℕ) → Contains ks j → k < j) × IsAscending ks

-- These are the nodes at which the pattern matches, each once, in preorder: the number of a node is the place of its first item, so a
-- parent is before its children.
pub record AreMatches (pattern_items : List Item) (pattern_tokens : List PatternToken) (items : List Item) (tokens : Tokens)
    (found : List ℕ) : Type 0 where
  pub preorder : IsAscending found
  pub exact : (k : ℕ) → Contains found k ↔ ((bs : List Binding) × MatchesAt pattern_items pattern_tokens items tokens k bs)
