-- The text of a tree.
use Rattle.std.specs.Prelude.{ℕ, ◌-◌, Bool, nat_le, List, [], ◌∷◌, ◌++◌, length, Option, Some, None, cond, if◌then◌else◌, ◌==◌, codes, slice_get}
use Rattle.std.specs.List.{flat_map}
use Rattle.g4_tokens.specs.declared.token.Token.{Token}
use Rattle.g4_tokens.specs.declared.token.Tokens.{Tokens}
use Rattle.g4_tokens.specs.TokenList.{bytes_of}
use Rattle.g4_source.specs.declared.rule.ParserRule.{ParserRule}
use Rattle.g4_trees.specs.declared.tree.Item.{Item}
use Rattle.g4_trees.specs.Trees.{Tree, leaf, node, Forest, no_tree, a_tree, tree_of}

-- a byte as it is shown: newline, tab and return as `\n`, `\t` and `\r`
abbrev pub shown_byte : ℕ → List ℕ
shown_byte b = if b == 10 then codes "\\n" else (if b == 9 then codes "\\t" else (if b == 13 then codes "\\r" else (b ∷ [])))

-- bytes as they are shown. No character of more than one byte has one of these three in it.
abbrev pub shown_bytes : List ℕ → List ℕ
shown_bytes bytes = flat_map shown_byte bytes

-- The token begins where nothing of a file of these bytes is left: it is one of those that close the file. A token that a match makes
-- is never there, since it has a byte or more, also where a command gives it the symbol EOF.
abbrev pub is_at_end : List ℕ → Token → Bool
is_at_end bytes token = nat_le (length bytes) token.start

-- a token as it is shown: its bytes, and those that close the file as `<EOF>`
abbrev pub token_text : List ℕ → Token → List ℕ
token_text bytes token = cond (is_at_end bytes token) (codes "<EOF>") (shown_bytes (bytes_of bytes token))

-- a token that was looked up, as it is shown, nothing where it is absent
abbrev pub text_by : List ℕ → Option Token → List ℕ
text_by bytes None = []
text_by bytes (Some token) = token_text bytes token

-- the token at a place of the list, as it is shown
abbrev pub text_at : Tokens → ℕ → List ℕ
text_at tokens at = text_by tokens.bytes (slice_get tokens.list at)

-- the name of a rule that was looked up, nothing where it is absent
abbrev pub name_by : {A : Type 0} → Option (ParserRule A) → List ℕ
name_by None = []
name_by (Some rule) = rule.name

-- the name of a rule by its number; rules count from 1
abbrev pub name_of : {A : Type 0} → List (ParserRule A) → ℕ → List ℕ
name_of rules rule = name_by (slice_get rules (rule - 1))

-- a node with this name and the texts of these children, each after a space: `(rule child child)`, and a node without children
-- as its name alone
abbrev pub node_text : List ℕ → Forest → List ℕ → List ℕ
node_text name no_tree children = name
node_text name (a_tree t ts) children = codes "(" ++ (name ++ (children ++ codes ")"))

module _ {A : Type 0} (rules : List (ParserRule A)) (tokens : Tokens) where
  abbrev mutual
    -- `(rule child child)`, and tokens as they are shown
    pub text_of : Tree → List ℕ
    text_of (leaf at) = text_at tokens at
    text_of (node rule alt at children) = node_text (name_of rules rule) children (texts_of children)

    -- the texts of trees one after another, each after a space
    pub texts_of : Forest → List ℕ
    texts_of no_tree = []
    texts_of (a_tree t ts) = codes " " ++ (text_of t ++ texts_of ts)

  -- the text of a tree, where there is one
  abbrev pub text_of_some : Option Tree → List ℕ
  text_of_some None = []
  text_of_some (Some t) = text_of t

  -- the text of the tree whose items these are
  abbrev pub tree_text : List Item → List ℕ
  tree_text xs = text_of_some (tree_of xs)
